-- A raise keeps the state sound, whether it finds the state that was loaded or not.
use Rattle.std.proofs.Common.{◌≡◌, ◌≢◌, ℕ, ◌<◌, inl, inr, Bool, true, false, ◌||◌, IsTrue, length, Some, None, sym, refl, ap, ◌∙◌, subst, arith, get_or-set_same}
use Rattle.std.specs.Prelude.{◌==◌, nat_le, if◌then◌else◌}
use Rattle.std.proofs.lemmas.Bool.{cases_eq, eqb-true, eq-eqb, ne_eqb}
use Rattle.std.proofs.lemmas.Option.{slice_get_within}
use prog.Atomic.{either}
use Rattle.octet_model.specs.declared.event.Place.{Place}
use Rattle.octet_model.specs.Machine.{journal_of}
use Rattle.octet_model.specs.HappensBefore.{event_at}
use Rattle.octet_model.specs.Past.{InPast}
use Rattle.octet_model.proofs.lemmas.Pasts.{past_grows, past_has_own}
use Rattle.octet_state.specs.declared.state_word.StateWord.{StateWord}
use Rattle.octet_state.specs.declared.state_word.StateWord.TheVariants.{WrEx, RdEx, RdSh, WrInt, RdInt, ShInt}
use Rattle.octet_state.specs.declared.act.Mode.{Mode}
use Rattle.octet_state.specs.declared.act.Mode.TheVariants.{Read}
use Rattle.octet_state.specs.declared.act.Whom.TheVariants.{One}
use Rattle.octet_state.specs.declared.act.Act.TheVariants.{Pass, Fence, Raise, Share, Take}
use Rattle.octet_state.specs.declared.phase.Phase.{Phase}
use Rattle.octet_state.specs.declared.phase.Phase.TheVariants.{Want, Pass}
use Rattle.octet_state.specs.declared.phase.Due.TheVariants.{Nothing, Glance}
use Rattle.octet_state.specs.Words.{FitsStateWord, packed_state}
use Rattle.octet_state.specs.Table.{decided}
use Rattle.octet_state.specs.State.{Thread, ProtocolState, thread_of, state_of, now, state_place}
use Rattle.octet_state.specs.Steps.{ToRaise, target, passing, lost, moved, wins, with_state, exchanged, proceeded}
use Rattle.octet_state.specs.Form.{HoldsPhase}
use Rattle.octet_state.specs.Positions.{AreFew}
use Rattle.octet_state.specs.Passing.{lets_pass, may_pass}
use Rattle.octet_state.specs.Intermediate.{change_of, change_by}
use Rattle.octet_state.specs.Pasts.{KnowsAccesses, StateKnows}
use Rattle.octet_state.specs.FrugalShape.{is_on, IsPrivateState}
use Rattle.octet_state.specs.Soundness.{IsSound}
use Rattle.octet_state.specs.Laws.{Stands, RaiseIsLawful}
use Rattle.octet_state.proofs.lemmas.Packing.{state_same}
use Rattle.octet_state.proofs.lemmas.Widths.{state_fits}
use Rattle.octet_state.proofs.steps.Load.{IsReady, knows_to_pass, ready, wants_soundly, enters_shape, mine_here}
use Rattle.octet_state.proofs.frames.StateChange.{ChangesWell, changes_soundly, shape_of_change}
use Rattle.octet_state.proofs.frames.WordOfStep.{left_by_exchange, does_at}

-- what an exchange makes of the word that it finds
pub exchange_makes : (s : ProtocolState) (p : Phase) (object : ℕ) (mode : Mode) (seen new : StateWord) (old stored : ℕ) → p ≡ Want object mode (Some seen) → old ≡ packed_state seen → stored ≡ packed_state new
    → either (packed_state (state_of s (target p)) == old) stored (packed_state (state_of s (target p))) ≡ left_by_exchange (wins (packed_state (state_of s (target p))) p) new (state_of s (target p))
exchange_makes s p object mode seen new old stored is loads stores =
    subst (λ (q : Phase). either (packed_state (state_of s (target q)) == old) stored (packed_state (state_of s (target q))) ≡ left_by_exchange (wins (packed_state (state_of s (target q))) q) new (state_of s (target q))) (sym is)
    (λ i. either (packed_state (state_of s object) == loads i) (stores i) (packed_state (state_of s object)))

-- an exchange that finds the word that was loaded finds the state
pub finds_seen : (s : ProtocolState) (object : ℕ) (seen : StateWord) → IsSound s → FitsStateWord seen → (packed_state (state_of s object) == packed_state seen) ≡ true → state_of s object ≡ seen
finds_seen s object seen sound fits won = state_same (state_of s object) seen (state_fits s object sound) fits (eqb-true (packed_state (state_of s object)) (packed_state seen) won)

-- the owner of a read-exclusive object knows all its accesses
pub owner_knows_all : (s : ProtocolState) (object owner upto : ℕ) → StateKnows s.journals s.counter object (RdEx owner upto) → KnowsAccesses s.journals object owner (now s owner)
owner_knows_all s object owner upto knows place access = elim (cases_eq place.thread owner) [
  | inr differ ↦ past_grows s.journals owner upto (now s owner) place knows.0 (knows.2 place access differ)
  | inl same ↦ subst (λ (p : Place). InPast s.journals owner (now s owner) p) (λ i. record { thread = sym same i; event = place.event })
      (let at : event_at s.journals (record { thread = owner; event = place.event }) ≡ Some access.0 = subst (λ (u : ℕ). event_at s.journals (record { thread = u; event = place.event }) ≡ Some access.0) same access.1 in
      past_has_own s.journals owner (now s owner) place.event (slice_get_within (journal_of s.journals owner) place.event access.0 at) (access.0, at))
]

-- only a read-exclusive state of the thread is raised
raised : (seen : StateWord) (t : ℕ) (mode : Mode) (count : ℕ) → decided seen t mode count ≡ Raise → (upto : ℕ) × (seen ≡ RdEx t upto)
raised (WrEx owner) t mode count h = absurd (neither (owner == t) h)
  where
    neither : (b : Bool) → (if b then Pass else Take (One owner)) ≡ Raise → ⊥
    neither true k = cc
    neither false k = cc
raised (RdEx owner upto) t Read count h = absurd (neither (owner == t) h)
  where
    neither : (b : Bool) → (if b then Pass else Share owner upto) ≡ Raise → ⊥
    neither true k = cc
    neither false k = cc
raised (RdEx owner upto) t _ count h = (upto, ap (λ (u : ℕ). RdEx u upto) (own (owner == t) refl h))
  where
    own : (b : Bool) → (owner == t) ≡ b → (if b then Raise else Take (One owner)) ≡ Raise → owner ≡ t
    own true e k = eqb-true owner t e
    own false e k = absurd cc
raised (RdSh number) t Read count h = absurd (neither (nat_le number count) h)
  where
    neither : (b : Bool) → (if b then Pass else Fence) ≡ Raise → ⊥
    neither true k = cc
    neither false k = cc
raised (RdSh number) t _ count h = absurd cc
raised (WrInt by) t mode count h = absurd cc
raised (RdInt by) t mode count h = absurd cc
raised (ShInt by) t mode count h = absurd cc

module _ (s : ProtocolState) (t object upto : ℕ) (mode : Mode) (inside : t < length s.threads) (there : object < length s.cells) (sound : IsSound s) (stands : Stands s t (Want object mode (Some (RdEx t upto)))) (state : state_of s object ≡ RdEx t upto) where
  abbrev raising : Thread
  raising = moved (Pass object mode) Nothing (thread_of s t)

  is_ready : IsReady s t
  is_ready = ready s t object mode sound (inr (Some (RdEx t upto), stands))

  own : KnowsAccesses s.journals object t (now s t)
  own = owner_knows_all s object t upto (subst (StateKnows s.journals s.counter object) state (sound.pasts.states object))

  within : object < length s.states
  within = let h = sound.form.states in omega arith

  well : ChangesWell s t object (WrEx t) raising
  well = record {
    dues = refl;
    phases = there;
    ran = is_ready.runs;
    runs = refl;
    named = inside;
    prior_named = tt;
    accesses = is_ready.room;
    at_end = subst AreFew (sym is_ready.bare) (omega arith, omega arith);
    others_change = λ u differ. sym (ap (λ (v : StateWord). change_of v u) state);
    own_change = refl;
    changed_nothing = λ o differ. ap (λ (p : Phase). change_by p t o) stands.1;
    changes_nothing = λ o differ. refl;
    others_pass = λ how u differ is_there h. absurd (nobody how u differ (subst (λ (v : StateWord). IsTrue (may_pass s.statuses s.threads how u object v)) state h));
    passing = subst (λ (v : StateWord). IsTrue (may_pass (proceeded (with_state s object (WrEx t)) t raising None).statuses (proceeded (with_state s object (WrEx t)) t raising None).threads mode t object v)) (sym (get_or-set_same s.states object (WrEx t) (WrEx 0) within)) (eq-eqb t t refl);
    state_knows = own;
    knows = knows_to_pass s object t mode own;
    counts = refl;
    handover = tt;
  }
    where
      nobody : (how : Mode) (u : ℕ) → u ≢ t → IsTrue (lets_pass how u (RdEx t upto)) → ⊥
      nobody Read u differ h = differ (sym (eqb-true t u h))
      nobody _ u differ h = cc

  on_object : is_on (Pass object mode) object ≡ true
  on_object = ap (λ (b : Bool). b || false) (eq-eqb object object refl)

  not_fresh : state_of s object ≡ WrEx 0 → ⊥
  not_fresh fresh = let both : RdEx t upto ≡ WrEx 0 = sym state ∙ fresh in cc

  pub raises_soundly : IsSound (proceeded (with_state s object (WrEx t)) t (moved (Pass object mode) Nothing (thread_of s t)) None)
  raises_soundly = changes_soundly s t object (WrEx t) raising inside there sound well (shape_of_change s t object (WrEx t) raising inside there sound well
      (enters_shape s t object mode inside sound there is_ready (Pass object mode) refl refl on_object (λ o differ. (ne_eqb object o (λ same. differ (sym same)), refl)) (λ fresh. absurd (not_fresh fresh)) (λ private. refl))
      (mine_here s t object mode inside sound there is_ready (Pass object mode) refl refl on_object (λ o differ. (ne_eqb object o (λ same. differ (sym same)), refl)) (λ fresh. absurd (not_fresh fresh)) (λ private. refl))
      (λ u private. subst (IsPrivateState (proceeded s t raising None).journals (proceeded s t raising None).threads object u) state private))

module _ (s : ProtocolState) (t object : ℕ) (mode : Mode) (seen : StateWord) (inside : t < length s.threads) (sound : IsSound s) (stands : Stands s t (Want object mode (Some seen))) where
  pub holds_seen : HoldsPhase (length s.threads) (length s.cells) t (thread_of s t).count (Want object mode (Some seen))
  holds_seen = subst (HoldsPhase (length s.threads) (length s.cells) t (thread_of s t).count) stands.1 (sound.form.phases t)

  -- an exchange that finds another state changes nothing but the thread's phase
  pub loses_soundly : IsSound (proceeded s t (moved (Want object mode None) Glance (thread_of s t)) None)
  loses_soundly = wants_soundly s t object mode inside sound holds_seen.0 (ready s t object mode sound (inr (Some seen, stands))) None Glance holds_seen.0

  by_outcome : (b : Bool) → (packed_state (state_of s object) == packed_state seen) ≡ b → decided seen t mode (thread_of s t).count ≡ Raise
      → IsSound (proceeded (exchanged b s object (WrEx t)) t (if b then moved (Pass object mode) Nothing (thread_of s t) else moved (Want object mode None) Glance (thread_of s t)) None)
  by_outcome false lost act = loses_soundly
  by_outcome true won act =
      let kind = raised seen t mode (thread_of s t).count act in
      let state : state_of s object ≡ RdEx t kind.0 = finds_seen s object seen sound holds_seen.1 won ∙ kind.1 in
      let stands_so : Stands s t (Want object mode (Some (RdEx t kind.0))) = (stands.0, stands.1 ∙ (λ i. Want object mode (Some (kind.1 i)))) in
      raises_soundly s t object kind.0 mode inside holds_seen.0 sound stands_so state

pub raise_is_lawful : RaiseIsLawful
raise_is_lawful s t place old new object mode seen sound inside stands act at loads stores = record {
  may = (stands.0, (object, mode, seen, stands.1, act));
  sound = subst (λ (p : Phase). IsSound (proceeded (exchanged (wins (packed_state (state_of s (target p))) p) s (target p) (WrEx t)) t
      (if wins (packed_state (state_of s (target p))) p then moved (passing p) Nothing (thread_of s t) else moved (lost p) Glance (thread_of s t)) None)) (sym stands.1)
      (by_outcome s t object mode seen inside sound stands (packed_state (state_of s object) == packed_state seen) refl act);
  does = does_at s sound.form t inside ToRaise place (λ word. either (word == old) new word)
      (subst (λ (p : Phase). target p < length s.cells) (sym stands.1) (holds_seen s t object mode seen inside sound stands).0)
      (at ∙ ap (λ (p : Phase). state_place s (target p)) (sym stands.1)) (exchange_makes s (thread_of s t).phase object mode seen (WrEx t) old new stands.1 loads stores);
}
