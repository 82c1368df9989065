-- A claim keeps the state sound, whether it finds the state that was loaded or not.
use Rattle.std.proofs.Common.{◌≡◌, ◌≢◌, ℕ, ◌<◌, inl, inr, Bool, true, false, ◌||◌, IsTrue, [], length, Some, None, sym, refl, ap, ◌∙◌, subst, arith, get_or-set_same, get_or-set_other}
use Rattle.std.specs.Prelude.{IsFalse, ◌==◌, if◌then◌else◌}
use Rattle.std.proofs.lemmas.Bool.{cases_eq, eq-eqb, ne_eqb, or_parts, or_left, or_right, false_from_ne_true}
use prog.Atomic.{either}
use Rattle.octet_model.specs.Machine.{journal_of}
use Rattle.octet_model.specs.Frugal.{marks_at_end}
use Rattle.octet_state.specs.declared.state_word.StateWord.{StateWord}
use Rattle.octet_state.specs.declared.state_word.StateWord.TheVariants.{WrEx, WrInt, RdInt}
use Rattle.octet_state.specs.declared.act.Mode.{Mode}
use Rattle.octet_state.specs.declared.act.Mode.TheVariants.{Read}
use Rattle.octet_state.specs.declared.act.Whom.{Whom}
use Rattle.octet_state.specs.declared.act.Act.TheVariants.{Take}
use Rattle.octet_state.specs.declared.phase.Phase.{Phase}
use Rattle.octet_state.specs.declared.phase.Phase.TheVariants.{Want, Claimed}
use Rattle.octet_state.specs.declared.phase.Due.TheVariants.{Nothing, Glance}
use Rattle.octet_state.specs.Words.{packed_state}
use Rattle.octet_state.specs.Table.{decided}
use Rattle.octet_state.specs.State.{Thread, ProtocolState, thread_of, status_of, state_of, state_place, unstarted}
use Rattle.octet_state.specs.Steps.{ToClaim, target, mode_of, claiming, claimed, lost, moved, wins, with_state, exchanged, proceeded}
use Rattle.octet_state.specs.Asking.{whom_to_ask}
use Rattle.octet_state.specs.Positions.{NamesThread, HasMarksAtEnd}
use Rattle.octet_state.specs.Passing.{claim_lets_pass, may_pass}
use Rattle.octet_state.specs.Intermediate.{change_of, change_by}
use Rattle.octet_state.specs.Pasts.{StateKnows}
use Rattle.octet_state.specs.FrugalShape.{has_access, marks_for, fences_for, is_on, touches, IsUntouched, AsksThreadZero, IsPrivateState, IsPrivateShape, HasFrugalShape, AreFrugalAtEnd}
use Rattle.octet_state.specs.Soundness.{IsSound}
use Rattle.octet_state.specs.Laws.{Stands, ClaimIsLawful}
use Rattle.octet_state.proofs.lemmas.Accesses.{no_access_at}
use Rattle.octet_state.proofs.steps.Load.{IsReady, ready}
use Rattle.octet_state.proofs.frames.StateChange.{ChangesWell, changes_soundly}
use Rattle.octet_state.proofs.steps.Raise.{exchange_makes, finds_seen, holds_seen, loses_soundly}
use Rattle.octet_state.proofs.parts.Takeable.{IsTakeable, takeable, takeable_unchanged, takeable_passes, takeable_is_not_own}
use Rattle.octet_state.proofs.parts.PassingInClaims.{claim_begins_passing}
use Rattle.octet_state.proofs.parts.HandoverInClaims.{claim_begins_handover}
use Rattle.octet_state.proofs.frames.WordOfStep.{left_by_exchange, does_at}
use Rattle.octet_state.proofs.parts.FrugalShape.{private_state_on, shape_with}

-- the intermediate state of a claim
names_claimer : (threads t : ℕ) (mode : Mode) → t < threads → NamesThread threads (claiming t mode)
names_claimer threads t Read h = h
names_claimer threads t _ h = h

claiming_is_of_no_other : (t u : ℕ) (mode : Mode) → u ≢ t → change_of (claiming t mode) u ≡ None
claiming_is_of_no_other t u Read differ = ap (λ (b : Bool). if b then Some (RdInt t) else None) (ne_eqb t u (λ same. differ (sym same)))
claiming_is_of_no_other t u _ differ = ap (λ (b : Bool). if b then Some (WrInt t) else None) (ne_eqb t u (λ same. differ (sym same)))

claiming_is_own : (t object : ℕ) (mode : Mode) (prior : StateWord) → change_of (claiming t mode) t ≡ change_by (Claimed object mode prior 0 false) t object
claiming_is_own t object Read prior = (λ i. if eq-eqb t t refl i then Some (RdInt t) else None) ∙ (λ i. if sym (eq-eqb object object refl) i then Some (RdInt t) else None)
claiming_is_own t object _ prior = (λ i. if eq-eqb t t refl i then Some (WrInt t) else None) ∙ (λ i. if sym (eq-eqb object object refl) i then Some (WrInt t) else None)

claims_no_other : (t object o : ℕ) (mode : Mode) (prior : StateWord) → o ≢ object → change_by (Claimed object mode prior 0 false) t o ≡ None
claims_no_other t object o Read prior differ = ap (λ (b : Bool). if b then Some (RdInt t) else None) (ne_eqb object o (λ same. differ (sym same)))
claims_no_other t object o _ prior differ = ap (λ (b : Bool). if b then Some (WrInt t) else None) (ne_eqb object o (λ same. differ (sym same)))

-- in it pass those whom the claim lets pass
pass_by_claim : (s : ProtocolState) (how mode : Mode) (u object t : ℕ) → IsTrue (claim_lets_pass how u object (status_of s u) t (thread_of s t).phase) → IsTrue (may_pass s.statuses s.threads how u object (claiming t mode))
pass_by_claim s how Read u object t h = h
pass_by_claim s how _ u object t h = h

-- a claim as private state
private_claim : (s : ProtocolState) (object t : ℕ) (mode : Mode) → AsksThreadZero (thread_of s t).phase → t ≢ 0 → IsFalse (has_access (journal_of s.journals t) object) → IsPrivateState s.journals s.threads object t (claiming t mode)
private_claim s object t Read asks not_zero first = (refl, asks, not_zero, first)
private_claim s object t _ asks not_zero first = (refl, asks, not_zero, first)

claim_knows : (s : ProtocolState) (object t : ℕ) (mode : Mode) → StateKnows s.journals s.counter object (claiming t mode)
claim_knows s object t Read = tt
claim_knows s object t _ = tt

module _ (s : ProtocolState) (t object : ℕ) (mode : Mode) (seen : StateWord) (inside : t < length s.threads) (there : object < length s.cells) (sound : IsSound s) (stands : Stands s t (Want object mode (Some seen)))
    (take : decided seen t mode (thread_of s t).count ≡ Take (whom_to_ask seen)) (takes : IsTakeable seen t) (state : state_of s object ≡ seen) where
  abbrev claimer : Thread
  claimer = moved (Claimed object mode seen 0 false) Nothing (thread_of s t)

  abbrev next : ProtocolState
  next = proceeded (with_state s object (claiming t mode)) t claimer None

  is_ready : IsReady s t
  is_ready = ready s t object mode sound (inr (Some seen, stands))

  here : (P : Thread → Type 0) → P claimer → P (thread_of next t)
  here P h = subst P (sym (get_or-set_same s.threads t claimer unstarted inside)) h

  elsewhere : (P : Thread → Type 0) (u : ℕ) → u ≢ t → P (thread_of s u) → P (thread_of next u)
  elsewhere P u differ h = subst P (sym (get_or-set_other s.threads t u claimer unstarted differ)) h

  well : ChangesWell s t object (claiming t mode) claimer
  well = record {
    dues = refl;
    phases = (there, take, omega arith, λ h. absurd cc);
    ran = is_ready.runs;
    runs = refl;
    named = names_claimer (length s.threads) t mode inside;
    prior_named = subst (NamesThread (length s.threads)) state (sound.positions.named object);
    accesses = is_ready.room;
    at_end = subst (HasMarksAtEnd (Claimed object mode seen 0 false)) (sym is_ready.bare) (refl, refl);
    others_change = λ u differ. claiming_is_of_no_other t u mode differ ∙ sym (ap (λ (v : StateWord). change_of v u) state ∙ takeable_unchanged seen t u takes);
    own_change = claiming_is_own t object mode seen;
    changed_nothing = λ o differ. ap (λ (p : Phase). change_by p t o) stands.1;
    changes_nothing = λ o differ. claims_no_other t object o mode seen differ;
    others_pass = λ how u differ is_there h. pass_by_claim next how mode u object t (here (λ y. IsTrue (claim_lets_pass how u object (status_of s u) t y.phase))
        (claim_begins_passing how mode seen t u object (status_of s u) differ takes (takeable_passes s how u object seen t takes (subst (λ (v : StateWord). IsTrue (may_pass s.statuses s.threads how u object v)) state h))));
    passing = refl;
    state_knows = claim_knows s object t mode;
    knows = tt;
    counts = refl;
    handover = claim_begins_handover s object t seen takes (subst (StateKnows s.journals s.counter object) state (sound.pasts.states object));
  }

  within : object < length s.states
  within = let h = sound.form.states in omega arith

  own_state : state_of next object ≡ claiming t mode
  own_state = get_or-set_same s.states object (claiming t mode) (WrEx 0) within

  other_state : (o : ℕ) → o ≢ object → state_of next o ≡ state_of s o
  other_state o differ = get_or-set_other s.states object o (claiming t mode) (WrEx 0) differ

  -- the thread touches the object now, and else what it did
  touched : touches next.journals next.threads object t ≡ true
  touched = here (λ y. (has_access (journal_of s.journals t) object || is_on y.phase object) ≡ true)
      (or_right (has_access (journal_of s.journals t) object) (is_on (Claimed object mode seen 0 false) object) (or_left (object == object) false (eq-eqb object object refl)))

  other_same : (o u : ℕ) → u ≢ t → touches next.journals next.threads o u ≡ touches s.journals s.threads o u
  other_same o u differ = elsewhere (λ y. (has_access (journal_of s.journals u) o || is_on y.phase o) ≡ touches s.journals s.threads o u) u differ refl

  own_same : (o : ℕ) → o ≢ object → touches next.journals next.threads o t ≡ touches s.journals s.threads o t
  own_same o differ = here (λ y. (has_access (journal_of s.journals t) o || is_on y.phase o) ≡ touches s.journals s.threads o t)
      ((λ i. has_access (journal_of s.journals t) o || (ne_eqb object o (λ same. differ (sym same)) i || false)) ∙ (λ i. has_access (journal_of s.journals t) o || (sym (is_ready.marks_none o) i || sym (is_ready.fences_none o) i)))

  there_same : (o u : ℕ) → o ≢ object → touches next.journals next.threads o u ≡ touches s.journals s.threads o u
  there_same o u differ = elim (cases_eq u t) [
    | inl same ↦ subst (λ (v : ℕ). touches next.journals next.threads o v ≡ touches s.journals s.threads o v) (sym same) (own_same o differ)
    | inr apart ↦ other_same o u apart
  ]

  -- a thread that asks thread 0 is another one
  asks_on : (u : ℕ) → AsksThreadZero (thread_of s u).phase → AsksThreadZero (thread_of next u).phase
  asks_on u h = elim (cases_eq u t) [
    | inl same ↦ absurd (subst AsksThreadZero stands.1 (subst (λ (v : ℕ). AsksThreadZero (thread_of s v).phase) same h))
    | inr apart ↦ elsewhere (λ y. AsksThreadZero y.phase) u apart h
  ]

  fences_there : (o u : ℕ) → IsFalse (fences_for (thread_of s u).phase o) → IsFalse (fences_for (thread_of next u).phase o)
  fences_there o u h = elim (cases_eq u t) [
    | inl same ↦ subst (λ (v : ℕ). IsFalse (fences_for (thread_of next v).phase o)) (sym same) (here (λ y. IsFalse (fences_for y.phase o)) refl)
    | inr apart ↦ elsewhere (λ y. IsFalse (fences_for y.phase o)) u apart h
  ]

  to_come_there : (o u : ℕ) → IsPrivateShape s.journals s.states s.threads o u → IsTrue (marks_for (thread_of next u).phase o) → AreFrugalAtEnd s.journals o u
  to_come_there o u old marks = elim (cases_eq u t) [
    | inl same ↦ inl (subst (λ (v : ℕ). marks_at_end (journal_of s.journals v) ≡ []) (sym same) is_ready.bare)
    | inr apart ↦ old.to_come (subst (λ (y : Thread). IsTrue (marks_for y.phase o)) (get_or-set_other s.threads t u claimer unstarted apart) marks)
  ]

  shape_there : (o u : ℕ) → o ≢ object → IsPrivateShape s.journals s.states s.threads o u → IsPrivateShape next.journals next.states next.threads o u
  shape_there o u differ old = record {
    state = subst (IsPrivateState next.journals next.threads o u) (sym (other_state o differ)) (private_state_on s.journals s.journals s.threads next.threads o u (state_of s o) (λ by h. (asks_on u h.0, h.1, h.2)) old.state);
    no_fence = fences_there o u old.no_fence;
    before = old.before;
    to_come = to_come_there o u old;
  }

  -- where the thread alone touches the object, it has taken it from thread 0, for a first access
  shape_here : (b : Bool) → touches s.journals s.threads object t ≡ b → ((other : ℕ) → IsTrue (touches next.journals next.threads object other) → other ≡ t) → IsPrivateShape next.journals next.states next.threads object t
  shape_here true was alone = absurd (takeable_is_not_own s object t seen takes (subst (IsPrivateState s.journals s.threads object t) state
      (sound.frugal.private object t (was, λ v h. elim (cases_eq v t) [ inl same ↦ same | inr apart ↦ alone v (other_same object v apart ∙ h) ])).state))
  shape_here false was alone =
      let none : IsUntouched s.journals s.threads object = λ v. elim (cases_eq v t) [
        | inl same ↦ subst (λ (u : ℕ). touches s.journals s.threads object u ≡ false) (sym same) was
        | inr apart ↦ false_from_ne_true (touches s.journals s.threads object v) (λ h. apart (alone v (other_same object v apart ∙ h)))
      ] in
      let no_access : (v : ℕ) → has_access (journal_of s.journals v) object ≡ false = λ v. (or_parts (has_access (journal_of s.journals v) object) (is_on (thread_of s v).phase object) (none v)).0 in
      let zero : seen ≡ WrEx 0 = sym state ∙ sound.frugal.untouched object none in record {
        state = subst (IsPrivateState next.journals next.threads object t) (sym own_state) (private_claim next object t mode (here (λ y. AsksThreadZero y.phase) (ap whom_to_ask zero))
            (λ same. subst (λ (w : StateWord). IsTakeable w t) zero takes (sym same)) (no_access t));
        no_fence = here (λ y. IsFalse (fences_for y.phase object)) refl;
        before = λ place access. absurd (no_access_at (journal_of s.journals place.thread) place.event object access.0 (no_access place.thread) access.1 access.2);
        to_come = λ marks. inl is_ready.bare;
      }

  shape : HasFrugalShape next
  shape = shape_with s.journals s.journals s.threads next.threads s.states next.states object t touched there_same other_state shape_there (shape_here (touches s.journals s.threads object t) refl) sound.frugal

  pub claims_soundly : IsSound (proceeded (with_state s object (claiming t mode)) t (moved (Claimed object mode seen 0 false) Nothing (thread_of s t)) None)
  claims_soundly = changes_soundly s t object (claiming t mode) claimer inside there sound well shape

module _ (s : ProtocolState) (t object : ℕ) (mode : Mode) (seen : StateWord) (whom : Whom) (inside : t < length s.threads) (sound : IsSound s) (stands : Stands s t (Want object mode (Some seen)))
    (act : decided seen t mode (thread_of s t).count ≡ Take whom) where
  by_outcome : (b : Bool) → (packed_state (state_of s object) == packed_state seen) ≡ b
      → IsSound (proceeded (exchanged b s object (claiming t mode)) t (if b then moved (Claimed object mode seen 0 false) Nothing (thread_of s t) else moved (Want object mode None) Glance (thread_of s t)) None)
  by_outcome false lost = loses_soundly s t object mode seen inside sound stands
  by_outcome true won =
      let kind = takeable seen t mode (thread_of s t).count whom act in let holds = holds_seen s t object mode seen inside sound stands in
      claims_soundly s t object mode seen inside holds.0 sound stands (act ∙ ap Take kind.1) kind.0 (finds_seen s object seen sound holds.1 won)

pub claim_is_lawful : ClaimIsLawful
claim_is_lawful s t place old new object mode seen whom sound inside stands act at loads stores = record {
  may = (stands.0, (object, mode, seen, whom, stands.1, act));
  sound = subst (λ (p : Phase). IsSound (proceeded (exchanged (wins (packed_state (state_of s (target p))) p) s (target p) (claiming t (mode_of p))) t
      (if wins (packed_state (state_of s (target p))) p then moved (claimed p) Nothing (thread_of s t) else moved (lost p) Glance (thread_of s t)) None)) (sym stands.1)
      (by_outcome s t object mode seen whom inside sound stands act (packed_state (state_of s object) == packed_state seen) refl);
  does = does_at s sound.form t inside ToClaim place (λ word. either (word == old) new word)
      (subst (λ (p : Phase). target p < length s.cells) (sym stands.1) (holds_seen s t object mode seen inside sound stands).0)
      (at ∙ ap (λ (p : Phase). state_place s (target p)) (sym stands.1))
      (exchange_makes s (thread_of s t).phase object mode seen (claiming t mode) old new stands.1 loads stores
      ∙ ap (λ (m : Mode). left_by_exchange (wins (packed_state (state_of s (target (thread_of s t).phase))) (thread_of s t).phase) (claiming t m) (state_of s (target (thread_of s t).phase))) (sym (ap mode_of stands.1)));
}
