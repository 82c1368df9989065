-- The stretches after an exchange of a state.
use Rattle.std.proofs.Common.{◌≡◌, ◌≢◌, ◌∙◌, ℕ, ◌<◌, Bool, true, false, Option, Some, None, sym, ap, eq-eqb}
use Rattle.std.specs.Prelude.{if◌then◌else◌}
use Rattle.std.proofs.lemmas.Bool.{ne_eqb}
use Rattle.octet_state.specs.declared.act.Mode.{Mode}
use Rattle.octet_state.specs.declared.act.Act.{Act}
use Rattle.octet_state.specs.declared.act.Act.TheVariants.{Raise, Share, Take}
use Rattle.octet_state.specs.declared.act.Whom.{Whom}
use Rattle.octet_state.specs.declared.phase.Phase.{Phase}
use Rattle.octet_state.specs.declared.phase.Phase.TheVariants.{Want}
use Rattle.octet_state.specs.declared.state_word.StateWord.{StateWord}
use Rattle.octet_state.specs.declared.why.Why.{Why}
use Rattle.octet_state.specs.declared.why.Why.TheVariants.{Changed}
use Rattle.octet_state.specs.Words.{packed_state}
use Rattle.octet_state.specs.Steps.{ToClaim, ToRaise, ToShare, wins}
use Rattle.octet_state.specs.NextStep.{changed, word_seen, exchange_of}
use Rattle.octet_rule.specs.Views.{SeatView}
use Rattle.octet_rule.specs.Rule.{Steps}
use Rattle.octet_heap.specs.declared.pending_access.PendingAccess.{PendingAccess}
use Rattle.octet_heap.specs.declared.poll.Poll.TheVariants.{Pending}
use Rattle.octet_heap.specs.Walks.{access_task, next_step}
use Rattle.octet_heap.specs.Polls.{answer_by, Comes}
use Rattle.octet_heap.specs.Waiting.{Says, StandsIn}
use Rattle.octet_heap.specs.Ways.{Goes}
use Rattle.octet_heap.proofs.polls.Going.{next_in, comes_by, goes_one}

-- an exchange of the state that was loaded, which finds this word
won : (object : ℕ) (mode : Mode) (state : StateWord) (seen : ℕ) (p : Phase) → p ≡ Want object mode (Some state) → packed_state state ≡ seen → wins seen p ≡ true
won object mode state seen p is word = ap (wins seen) is ∙ eq-eqb seen (packed_state state) (sym word)

not_won : (object : ℕ) (mode : Mode) (state : StateWord) (seen found : ℕ) (p : Phase) → p ≡ Want object mode (Some state) → packed_state state ≡ seen → found ≢ seen → wins found p ≡ false
not_won object mode state seen found p is word other = ap (wins found) is ∙ ne_eqb found (packed_state state) (λ same. other (same ∙ word))

no_change : (object : ℕ) (mode : Mode) (state : StateWord) (seen : ℕ) (p : Phase) → p ≡ Want object mode (Some state) → packed_state state ≡ seen → changed p seen ≡ None
no_change object mode state seen p is word = ap (λ (b : Bool). if b then None else Some (Changed (word_seen p) seen)) (won object mode state seen p is word)

is_changed : (object : ℕ) (mode : Mode) (state : StateWord) (seen found : ℕ) (p : Phase) → p ≡ Want object mode (Some state) → packed_state state ≡ seen → found ≢ seen → changed p found ≡ Some (Changed seen found)
is_changed object mode state seen found p is word other = ap (λ (b : Bool). if b then None else Some (Changed (word_seen p) found)) (not_won object mode state seen found p is word other)
    ∙ ap (λ (n : ℕ). Some (Changed n found)) (ap word_seen is ∙ word)

exchange_next : (access : PendingAccess) (state : StateWord) (v : SeatView) (act : Act) → StandsIn (Want access.object access.mode (Some state)) v → Says access state v act → next_step (access_task access) v ≡ exchange_of act
exchange_next access state v act stands says = next_in access v (Want access.object access.mode (Some state)) stands ∙ ap exchange_of says

module _ (access : PendingAccess) (state : StateWord) (seen : ℕ) (v u : SeatView) (stands : StandsIn (Want access.object access.mode (Some state)) v) (word : packed_state state ≡ seen) where
  pub raise_goes : Says access state v Raise → Steps ToRaise v seen u → Goes access v 2 u
  raise_goes says took = goes_one access v u ToRaise seen took (sym (exchange_next access state v Raise stands says))
      (ap (λ (o : Option Why). answer_by o ToRaise seen) (no_change access.object access.mode state seen v.thread.phase stands.1 word))

  pub share_goes : (from upto : ℕ) → Says access state v (Share from upto) → Steps ToShare v seen u → Goes access v 2 u
  share_goes from upto says took = goes_one access v u ToShare seen took (sym (exchange_next access state v (Share from upto) stands says))
      (ap (λ (o : Option Why). answer_by o ToShare seen) (no_change access.object access.mode state seen v.thread.phase stands.1 word))

  pub claim_goes : (whom : Whom) → Says access state v (Take whom) → Steps ToClaim v seen u → Goes access v 2 u
  claim_goes whom says took = goes_one access v u ToClaim seen took (sym (exchange_next access state v (Take whom) stands says))
      (ap (λ (o : Option Why). answer_by o ToClaim seen) (no_change access.object access.mode state seen v.thread.phase stands.1 word))

  module _ (found : ℕ) (other : found ≢ seen) where
    pub raise_lost : (n : ℕ) → Says access state v Raise → Steps ToRaise v found u → 2 < n → Comes access v (Pending (Changed seen found)) n u
    raise_lost n says took few = comes_by access v u ToRaise found (Pending (Changed seen found)) n took (sym (exchange_next access state v Raise stands says))
        (ap (λ (o : Option Why). answer_by o ToRaise found) (is_changed access.object access.mode state seen found v.thread.phase stands.1 word other)) few

    pub share_lost : (n from upto : ℕ) → Says access state v (Share from upto) → Steps ToShare v found u → 2 < n → Comes access v (Pending (Changed seen found)) n u
    share_lost n from upto says took few = comes_by access v u ToShare found (Pending (Changed seen found)) n took (sym (exchange_next access state v (Share from upto) stands says))
        (ap (λ (o : Option Why). answer_by o ToShare found) (is_changed access.object access.mode state seen found v.thread.phase stands.1 word other)) few

    pub claim_lost : (n : ℕ) (whom : Whom) → Says access state v (Take whom) → Steps ToClaim v found u → 2 < n → Comes access v (Pending (Changed seen found)) n u
    claim_lost n whom says took few = comes_by access v u ToClaim found (Pending (Changed seen found)) n took (sym (exchange_next access state v (Take whom) stands says))
        (ap (λ (o : Option Why). answer_by o ToClaim found) (is_changed access.object access.mode state seen found v.thread.phase stands.1 word other)) few
