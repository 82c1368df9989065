-- A settle keeps the state sound.
use Rattle.std.proofs.Common.{◌≡◌, ◌≢◌, ℕ, suc, ◌+◌, ◌-◌, ◌<◌, ◌≤◌, ◌⊎◌, inl, inr, Bool, true, false, ◌&&◌, ◌||◌, IsTrue, List, [], length, Some, None, slice_get, sym, refl, ap, ◌∙◌, subst, arith, get_or-set_same}
use Rattle.std.specs.Prelude.{◌==◌, nat_lt, not, if◌then◌else◌}
use Rattle.std.proofs.lemmas.Bool.{cases_eq, cases_lt, and_parts, eq-eqb, ne_eqb, lt-ltb, ltb-true}
use Rattle.std.proofs.lemmas.List.{get_or_past}
use Rattle.std.proofs.lemmas.Option.{slice_get_within}
use Rattle.octet_model.specs.declared.event.Event.{Event}
use Rattle.octet_model.specs.declared.event.Place.{Place}
use Rattle.octet_model.specs.Machine.{journal_of}
use Rattle.octet_model.specs.Journals.{access_count}
use Rattle.octet_model.specs.HappensBefore.{event_at}
use Rattle.octet_model.specs.Frugal.{marks_at_end, Accesses}
use Rattle.octet_model.specs.Past.{InPast}
use Rattle.octet_model.proofs.lemmas.Pasts.{past_has_own}
use Rattle.octet_state.specs.declared.state_word.StateWord.{StateWord}
use Rattle.octet_state.specs.declared.state_word.StateWord.TheVariants.{WrEx, RdEx, RdSh, WrInt, RdInt, ShInt}
use Rattle.octet_state.specs.declared.status_word.StatusWord.{StatusWord}
use Rattle.octet_state.specs.declared.act.Mode.{Mode}
use Rattle.octet_state.specs.declared.act.Mode.TheVariants.{Read}
use Rattle.octet_state.specs.declared.act.Whom.{Whom}
use Rattle.octet_state.specs.declared.act.Whom.TheVariants.{One, All}
use Rattle.octet_state.specs.declared.act.Act.TheVariants.{Take}
use Rattle.octet_state.specs.declared.phase.Phase.{Phase}
use Rattle.octet_state.specs.declared.phase.Phase.TheVariants.{Pass, Claimed}
use Rattle.octet_state.specs.declared.phase.Due.TheVariants.{Nothing}
use Rattle.octet_state.specs.Words.{packed_state}
use Rattle.octet_state.specs.Table.{decided}
use Rattle.octet_state.specs.State.{Thread, ProtocolState, thread_of, status_of, state_of, now, state_place}
use Rattle.octet_state.specs.Steps.{ToSettle, target, settling, owning, passing, moved, with_state, proceeded, most_accesses}
use Rattle.octet_state.specs.Asking.{whom_to_ask, is_to_ask, number_to_ask, is_done, was_asked, answers, has_answered, is_unanswered}
use Rattle.octet_state.specs.Form.{HoldsPhase}
use Rattle.octet_state.specs.Positions.{NamesThread, is_resting, access_to_come, AreFew, HasMarksAtEnd}
use Rattle.octet_state.specs.Passing.{lets_pass, claim_lets_pass, may_pass}
use Rattle.octet_state.specs.Intermediate.{change_of, change_by}
use Rattle.octet_state.specs.Pasts.{KnowsAccesses, StateKnows, PhaseKnows}
use Rattle.octet_state.specs.Handover.{KnowsShare, OwnerHandsOver, ReaderHandsOver, HandsOver, ClaimHandsOver}
use Rattle.octet_state.specs.FrugalShape.{marks_for, fences_for, IsPrivateState}
use Rattle.octet_state.specs.Soundness.{IsSound}
use Rattle.octet_state.specs.Laws.{Stands, SettleOfClaimIsLawful}
use Rattle.octet_state.proofs.frames.SeenByOthers.{TouchesAlike}
use Rattle.octet_state.proofs.parts.DrawsCounted.{joins_draw_nothing}
use Rattle.octet_state.proofs.lemmas.Widths.{asks_few}
use Rattle.octet_state.proofs.parts.Passing.{three_parts, unanswered_parts, claimed_state, passes_claim}
use Rattle.octet_state.proofs.steps.Load.{knows_its_writes}
use Rattle.octet_state.proofs.frames.StateChange.{ChangesWell, changes_soundly, shape_kept}
use Rattle.octet_state.proofs.frames.WordOfStep.{does_at}

-- once as many are done as are asked, each that is asked is done
all_done : (whom : Whom) (threads me thread : ℕ) → me < threads → thread < threads → IsTrue (is_to_ask whom me thread) → is_done whom me (number_to_ask whom threads) thread ≡ true
all_done (One owner) threads me thread h k asks = ap (λ (b : Bool). b && true) asks
all_done All threads me thread h k asks = by_order (nat_lt (threads - 1) me) refl
  where
    by_order : (b : Bool) → nat_lt (threads - 1) me ≡ b → (not (thread == me) && nat_lt thread (if b then threads - 1 else suc (threads - 1))) ≡ true
    by_order true is = absurd (let lt = ltb-true (threads - 1) me is in omega arith)
    by_order false is = (λ i. asks i && lt-ltb thread (suc (threads - 1)) (omega arith) i)

-- a thread that asks for an answer
asks_first : (whom : Whom) (me done : ℕ) (asked : Bool) (thread : ℕ) (status : StatusWord) → IsTrue (is_unanswered whom me done asked thread status) → IsTrue (is_to_ask whom me thread)
asks_first whom me done asked thread status h = (and_parts (is_to_ask whom me thread) (not (is_done whom me done thread)) (and_parts (is_to_ask whom me thread && not (is_done whom me done thread)) (not (was_asked whom me done asked thread) || not (answers status me)) h).0).0

module _ (s : ProtocolState) (t object : ℕ) (mode : Mode) (prior : StateWord) (asked : Bool) (inside : t < length s.threads) (sound : IsSound s)
    (stands : Stands s t (Claimed object mode prior (number_to_ask (whom_to_ask prior) (length s.threads)) asked)) where
  abbrev done : ℕ
  done = number_to_ask (whom_to_ask prior) (length s.threads)

  abbrev settled : Thread
  settled = moved (Pass object mode) Nothing (thread_of s t)

  holds : HoldsPhase (length s.threads) (length s.cells) t (thread_of s t).count (Claimed object mode prior done asked)
  holds = subst (HoldsPhase (length s.threads) (length s.cells) t (thread_of s t).count) stands.1 (sound.form.phases t)

  hands : HandsOver s.journals s.statuses object t prior done asked
  hands = subst (ClaimHandsOver s.journals s.statuses t) stands.1 (sound.handover t)

  state : (state_of s object ≡ WrInt t) ⊎ (state_of s object ≡ RdInt t)
  state = claimed_state s t object mode prior done asked sound stands.1

  -- of its own accesses and those of a thread that is there
  own_access : (place : Place) → Accesses s.journals place object → place.thread ≡ t → InPast s.journals t (now s t) place
  own_access place access same = subst (λ (p : Place). InPast s.journals t (now s t) p) (λ i. record { thread = sym same i; event = place.event })
      (let at : event_at s.journals (record { thread = t; event = place.event }) ≡ Some access.0 = subst (λ (u : ℕ). event_at s.journals (record { thread = u; event = place.event }) ≡ Some access.0) same access.1 in
      past_has_own s.journals t (now s t) place.event (slice_get_within (journal_of s.journals t) place.event access.0 at) (access.0, at))

  has_event : (place : Place) (e : Event) → event_at s.journals place ≡ Some e → place.thread < length s.threads
  has_event place e at = elim (cases_lt place.thread (length s.journals)) [
    | inl lt ↦ let h = sound.form.journals in omega arith
    | inr past ↦ absurd (let none = ap (λ (j : List Event). slice_get j place.event) (get_or_past s.journals place.thread [] past) in cc)
  ]

  owner_done : (owner : ℕ) (d a : Bool) (upto : ℕ) → d ≡ true → OwnerHandsOver s.journals object t owner upto d a → KnowsAccesses s.journals object t (now s t)
  owner_done owner true a upto is h = h
  owner_done owner false a upto is h = absurd cc

  reader_done : (y number : ℕ) (d a : Bool) (upto : ℕ) → d ≡ true → ReaderHandsOver s.journals object t number y upto d a → KnowsShare s.journals object number y t (now s t)
  reader_done y number true a upto is h = h
  reader_done y number false a upto is h = absurd cc

  -- so the thread knows all accesses of the object
  knows_by : (p : StateWord) → decided p t mode (thread_of s t).count ≡ Take (whom_to_ask p) → HandsOver s.journals s.statuses object t p (number_to_ask (whom_to_ask p) (length s.threads)) asked → KnowsAccesses s.journals object t (now s t)
  knows_by (WrEx owner) take h = owner_done owner (is_done (One owner) t 1 owner) (has_answered (One owner) t 1 asked owner (status_of s owner)) (status_of s owner).upto (ap (λ (b : Bool). b && true) (eq-eqb owner owner refl)) h
  knows_by (RdEx owner upto) take h = owner_done owner (is_done (One owner) t 1 owner) (has_answered (One owner) t 1 asked owner (status_of s owner)) (status_of s owner).upto (ap (λ (b : Bool). b && true) (eq-eqb owner owner refl)) h
  knows_by (RdSh number) take h = λ place access. elim (cases_eq place.thread t) [
    | inl same ↦ own_access place access same
    | inr differ ↦ reader_done place.thread number (is_done All t (length s.threads - 1) place.thread) (has_answered All t (length s.threads - 1) asked place.thread (status_of s place.thread)) (status_of s place.thread).upto
        (all_done All (length s.threads) t place.thread inside (has_event place access.0 access.1) (ap (λ (b : Bool). not b) (ne_eqb place.thread t differ))) (h.1 place.thread) place (refl, inl access)
  ]
  knows_by (WrInt by) take h = absurd cc
  knows_by (RdInt by) take h = absurd cc
  knows_by (ShInt by) take h = absurd cc

  knows_all : KnowsAccesses s.journals object t (now s t)
  knows_all = knows_by prior holds.1 hands

  within : object < length s.states
  within = let a = holds.0 in let b = sound.form.states in omega arith

  -- whoever passes by the claim is unanswered, but all are done
  nobody : (how : Mode) (u : ℕ) → u < length s.threads → IsTrue (may_pass s.statuses s.threads how u object (state_of s object)) → ⊥
  nobody how u is_there h =
      let lets = passes_claim s how u object t (state_of s object) state h in
      let parts = three_parts (object == object) (lets_pass how u prior) (is_unanswered (whom_to_ask prior) t done asked u (status_of s u)) (subst (λ (q : Phase). IsTrue (claim_lets_pass how u object (status_of s u) t q)) stands.1 lets) in
      let not_done = (unanswered_parts (whom_to_ask prior) t done asked u (status_of s u) parts.2).0 in
      let is_done_too = all_done (whom_to_ask prior) (length s.threads) t u inside is_there (asks_first (whom_to_ask prior) t done asked u (status_of s u) parts.2) in cc

  others : (w : StateWord) → ((u : ℕ) → change_of w u ≡ None) → (u : ℕ) → u ≢ t → change_of w u ≡ change_of (state_of s object) u
  others w none u differ = none u ∙ sym (elim state [
    | inl is ↦ ap (λ (v : StateWord). change_of v u) is ∙ ap (λ (b : Bool). if b then Some (WrInt t) else None) (ne_eqb t u (λ same. differ (sym same)))
    | inr is ↦ ap (λ (v : StateWord). change_of v u) is ∙ ap (λ (b : Bool). if b then Some (RdInt t) else None) (ne_eqb t u (λ same. differ (sym same)))
  ])

  claims_no_other : (m : Mode) (o : ℕ) → o ≢ object → change_by (Claimed object m prior done asked) t o ≡ None
  claims_no_other Read o differ = ap (λ (b : Bool). if b then Some (RdInt t) else None) (ne_eqb object o (λ same. differ (sym same)))
  claims_no_other _ o differ = ap (λ (b : Bool). if b then Some (WrInt t) else None) (ne_eqb object o (λ same. differ (sym same)))

  few_at_end : AreFew (marks_at_end (journal_of s.journals t))
  few_at_end = let ends : HasMarksAtEnd (Claimed object mode prior done asked) (marks_at_end (journal_of s.journals t)) = subst (λ (p : Phase). HasMarksAtEnd p (marks_at_end (journal_of s.journals t))) stands.1 (sound.positions.at_end t) in
      let a = asks_few (whom_to_ask prior) (length s.threads) sound.form.few_threads in let b = ends.0 in let c = joins_draw_nothing (marks_at_end (journal_of s.journals t)) ends.1 in (omega arith, omega arith)

  well : (w : StateWord) → ((u : ℕ) → change_of w u ≡ None) → NamesThread (length s.threads) w → StateKnows s.journals s.counter object w → PhaseKnows s.journals s.counter t (Pass object mode) → IsTrue (lets_pass mode t w) → IsTrue (may_pass (proceeded (with_state s object w) t settled None).statuses (proceeded (with_state s object w) t settled None).threads mode t object w) → ChangesWell s t object w settled
  well w none named state_knows knows lets may = record {
    dues = refl;
    phases = holds.0;
    ran = ap is_resting stands.1;
    runs = refl;
    named = named;
    prior_named = tt;
    accesses = subst (λ (p : Phase). access_count (journal_of s.journals t) + access_to_come p ≤ most_accesses) stands.1 (sound.positions.accesses t);
    at_end = few_at_end;
    others_change = others w none;
    own_change = none t;
    changed_nothing = λ o differ. ap (λ (p : Phase). change_by p t o) stands.1 ∙ claims_no_other mode o differ;
    changes_nothing = λ o differ. refl;
    others_pass = λ how u differ is_there h. absurd (nobody how u is_there h);
    passing = subst (λ (v : StateWord). IsTrue (may_pass (proceeded (with_state s object w) t settled None).statuses (proceeded (with_state s object w) t settled None).threads mode t object v)) (sym (get_or-set_same s.states object w (WrEx 0) within)) may;
    state_knows = state_knows;
    knows = knows;
    counts = refl;
    handover = tt;
  }

  touching : TouchesAlike settled (thread_of s t)
  touching = record { marks_same = λ o. sym (ap (λ (p : Phase). marks_for p o) stands.1); fences_same = λ o. sym (ap (λ (p : Phase). fences_for p o) stands.1) }

  -- the one thread that touches the object is the one that has claimed it
  private_owner : (u : ℕ) → IsPrivateState s.journals s.threads object u (state_of s object) → t ≡ u
  private_owner u h = elim state [
    | inl is ↦ (subst (IsPrivateState s.journals s.threads object u) is h).0
    | inr is ↦ (subst (IsPrivateState s.journals s.threads object u) is h).0
  ]

  settles_to : (w : StateWord) → ChangesWell s t object w settled → ((u : ℕ) → t ≡ u → IsPrivateState (proceeded (with_state s object w) t settled None).journals (proceeded (with_state s object w) t settled None).threads object u w) → IsSound (proceeded (with_state s object w) t settled None)
  settles_to w good private = changes_soundly s t object w settled inside holds.0 sound good
      (shape_kept s t object w settled inside holds.0 sound good touching (eq-eqb object object refl) (λ u h. private u (private_owner u h)))

module _ (s : ProtocolState) (t object : ℕ) (prior : StateWord) (asked : Bool) (inside : t < length s.threads) (sound : IsSound s) where
  pub settles_soundly : (mode : Mode) → Stands s t (Claimed object mode prior (number_to_ask (whom_to_ask prior) (length s.threads)) asked)
      → IsSound (proceeded (with_state s object (owning t (now s t) mode)) t (moved (Pass object mode) Nothing (thread_of s t)) None)
  settles_soundly Read stands = let all = knows_all s t object Read prior asked inside sound stands in let writes = knows_its_writes s.journals object t (now s t) all in
      settles_to s t object Read prior asked inside sound stands (RdEx t (now s t))
      (well s t object Read prior asked inside sound stands (RdEx t (now s t)) (λ u. refl) inside (omega arith, writes, λ place access differ. all place access) writes (eq-eqb t t refl) (eq-eqb t t refl)) (λ u same. same)
  settles_soundly mode stands = let all = knows_all s t object mode prior asked inside sound stands in
      settles_to s t object mode prior asked inside sound stands (WrEx t) (well s t object mode prior asked inside sound stands (WrEx t) (λ u. refl) inside all all (eq-eqb t t refl) (eq-eqb t t refl)) (λ u same. same)

pub settle_of_claim_is_lawful : SettleOfClaimIsLawful
settle_of_claim_is_lawful s t place new object mode prior asked sound inside stands at stores = record {
  may = (stands.0, inl (object, mode, prior, asked, stands.1));
  sound = subst (λ (p : Phase). IsSound (proceeded (with_state s (target p) (settling t (now s t) p)) t (moved (passing p) Nothing (thread_of s t)) None)) (sym stands.1) (settles_soundly s t object prior asked inside sound mode stands);
  does = does_at s sound.form t inside ToSettle place (λ word. new)
      (subst (λ (p : Phase). target p < length s.cells) (sym stands.1) (holds s t object mode prior asked inside sound stands).0)
      (at ∙ ap (λ (p : Phase). state_place s (target p)) (sym stands.1)) (stores ∙ ap (λ (p : Phase). packed_state (settling t (now s t) p)) (sym stands.1));
}
