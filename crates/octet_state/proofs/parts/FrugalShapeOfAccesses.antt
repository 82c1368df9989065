-- A read or a write keeps the frugal shape.
use Rattle.std.proofs.Common.{◌≡◌, ◌≢◌, ℕ, ◌<◌, inl, inr, Bool, true, false, ◌||◌, IsTrue, List, [], ◌∷◌, ◌++◌, length, Option, Some, slice_get, sym, refl, ap, ◌∙◌, subst, arith, get_or-set_same, get_or-set_other}
use Rattle.std.specs.Prelude.{IsFalse, ◌==◌}
use Rattle.std.proofs.lemmas.Bool.{cases_eq, eq-eqb}
use Rattle.octet_model.specs.declared.event.Event.{Event}
use Rattle.octet_model.specs.declared.event.Place.{Place}
use Rattle.octet_model.specs.Machine.{journal_of}
use Rattle.octet_model.specs.HappensBefore.{object_of}
use Rattle.octet_model.specs.Frugal.{Accesses}
use Rattle.octet_model.proofs.lemmas.Steps.{count, same_journal, other_journal}
use Rattle.octet_model.proofs.lemmas.Growth.{new}
use Rattle.octet_state.specs.declared.act.Mode.{Mode}
use Rattle.octet_state.specs.declared.phase.Phase.{Phase}
use Rattle.octet_state.specs.declared.phase.Phase.TheVariants.{Idle, Pass}
use Rattle.octet_state.specs.declared.phase.Due.TheVariants.{Nothing}
use Rattle.octet_state.specs.State.{Thread, ProtocolState, thread_of, state_of, unstarted}
use Rattle.octet_state.specs.Steps.{moved, proceeded}
use Rattle.octet_state.specs.FrugalShape.{is_object, has_access, marks_for, fences_for, is_on, touches, AsksThreadZero, IsPrivateShape, HasFrugalShape, AreFrugalBefore, AreFrugalAtEnd}
use Rattle.octet_state.specs.Soundness.{IsSound}
use Rattle.octet_state.proofs.lemmas.Accesses.{has_access_more, no_access_at}
use Rattle.octet_state.proofs.frames.LongerJournals.{old_or_new_access, before_new}
use Rattle.octet_state.proofs.frames.EventMade.{mine}
use Rattle.octet_state.proofs.parts.FrugalShape.{private_state_on, shape_on, frugal_before_on, frugal_at_end_on}

module _ (s : ProtocolState) (t : ℕ) (e : Event) (object : ℕ) (mode : Mode) (inside : t < length s.threads) (sound : IsSound s) (is : (thread_of s t).phase ≡ Pass object mode) (of : object_of e ≡ Some object) where
  abbrev idle : Thread
  idle = moved Idle Nothing (thread_of s t)

  abbrev next : ProtocolState
  next = proceeded s t idle (Some e)

  within : t < length s.journals
  within = mine s t idle e inside sound

  -- the thread as it is now
  here : (P : Thread → Type 0) → P idle → P (thread_of next t)
  here P h = subst P (sym (get_or-set_same s.threads t idle unstarted inside)) h

  there : (u : ℕ) → u ≢ t → (P : Thread → Type 0) → P (thread_of s u) → P (thread_of next u)
  there u differ P h = subst P (sym (get_or-set_other s.threads t u idle unstarted differ)) h

  back : (u : ℕ) → u ≢ t → (P : Thread → Type 0) → P (thread_of next u) → P (thread_of s u)
  back u differ P h = subst P (get_or-set_other s.threads t u idle unstarted differ) h

  -- the access takes the place of the phase
  mine_same : (o : ℕ) → touches next.journals next.threads o t ≡ touches s.journals s.threads o t
  mine_same o =
      ap (λ (j : List Event). has_access j o || is_on (thread_of next t).phase o) (same_journal s.journals t e within)
      ∙ (here (λ y. (has_access (journal_of s.journals t ++ e ∷ []) o || is_on y.phase o) ≡ (has_access (journal_of s.journals t ++ e ∷ []) o || false)) refl
      ∙ (ap (λ (b : Bool). b || false) (has_access_more (journal_of s.journals t) e o)
      ∙ (ap (λ (q : Option ℕ). (has_access (journal_of s.journals t) o || is_object q o) || false) of
      ∙ (moves (has_access (journal_of s.journals t) o) (object == o)
      ∙ ap (λ (p : Phase). has_access (journal_of s.journals t) o || is_on p o) (sym is)))))
    where
      moves : (a b : Bool) → ((a || b) || false) ≡ (a || (b || false))
      moves true b = refl
      moves false b = refl

  touches_same : (o u : ℕ) → touches next.journals next.threads o u ≡ touches s.journals s.threads o u
  touches_same o u = elim (cases_eq u t) [
    | inl same ↦ subst (λ (v : ℕ). touches next.journals next.threads o v ≡ touches s.journals s.threads o v) (sym same) (mine_same o)
    | inr differ ↦ ap (λ (j : List Event). has_access j o || is_on (thread_of next u).phase o) (other_journal s.journals t u e differ)
        ∙ there u differ (λ y. (has_access (journal_of s.journals u) o || is_on y.phase o) ≡ touches s.journals s.threads o u) refl
  ]

  -- the thread claims nothing
  no_claim : AsksThreadZero (thread_of s t).phase → ⊥
  no_claim h = subst AsksThreadZero is h

  private_claim : (o u : ℕ) → AsksThreadZero (thread_of s u).phase × (u ≢ 0) × IsFalse (has_access (journal_of s.journals u) o)
      → AsksThreadZero (thread_of next u).phase × (u ≢ 0) × IsFalse (has_access (journal_of next.journals u) o)
  private_claim o u h = elim (cases_eq u t) [
    | inl same ↦ absurd (no_claim (subst (λ (v : ℕ). AsksThreadZero (thread_of s v).phase) same h.0))
    | inr differ ↦ (there u differ (λ y. AsksThreadZero y.phase) h.0, h.1, ap (λ (j : List Event). has_access j o) (other_journal s.journals t u e differ) ∙ h.2)
  ]

  no_fence_on : (o u : ℕ) → IsFalse (fences_for (thread_of s u).phase o) → IsFalse (fences_for (thread_of next u).phase o)
  no_fence_on o u h = elim (cases_eq u t) [
    | inl same ↦ subst (λ (v : ℕ). IsFalse (fences_for (thread_of next v).phase o)) (sym same) (here (λ y. IsFalse (fences_for y.phase o)) refl)
    | inr differ ↦ there u differ (λ y. IsFalse (fences_for y.phase o)) h
  ]

  -- the new access has the marks before it that stood at the journal's end
  before_this : AreFrugalAtEnd s.journals object t → AreFrugalBefore next.journals (new s.journals t e) object
  before_this (inl none) = inl (before_new s.journals t e within ∙ none)
  before_this (inr first) = inr record {
    upto = first.upto;
    not_zero = first.not_zero;
    is_first = λ earlier same at. elim (old_or_new_access s.journals t e within earlier object at) [
      | inl old ↦ absurd (no_access_at (journal_of s.journals t) earlier.event object old.0 first.is_first (subst (λ (v : ℕ). slice_get (journal_of s.journals v) earlier.event ≡ Some old.0) same old.1) old.2)
      | inr it ↦ let event : earlier.event ≡ count s.journals t = ap (λ (p : Place). p.event) it.0 in omega arith
    ];
    one_join = before_new s.journals t e within ∙ first.one_join;
  }

  to_come_on : (o u : ℕ) → IsPrivateShape s.journals s.states s.threads o u → IsTrue (marks_for (thread_of next u).phase o)
      → AreFrugalAtEnd next.journals o u
  to_come_on o u old marks = elim (cases_eq u t) [
    | inl same ↦ absurd (let k : IsTrue (marks_for (thread_of next t).phase o) = subst (λ (v : ℕ). IsTrue (marks_for (thread_of next v).phase o)) same marks in
        let never : IsTrue (marks_for idle.phase o) = subst (λ (y : Thread). IsTrue (marks_for y.phase o)) (get_or-set_same s.threads t idle unstarted inside) k in cc)
    | inr differ ↦ frugal_at_end_on s.journals t e within o u differ (old.to_come (back u differ (λ y. IsTrue (marks_for y.phase o)) marks))
  ]

  -- the one thread that touches the object of the access is the thread that makes it
  touches_own : IsTrue (touches s.journals s.threads object t)
  touches_own = ap (λ (p : Phase). has_access (journal_of s.journals t) object || is_on p object) is ∙ last (has_access (journal_of s.journals t) object) (object == object) (eq-eqb object object refl)
    where
      last : (a b : Bool) → b ≡ true → (a || (b || false)) ≡ true
      last true b h = refl
      last false true h = refl
      last false false h = absurd cc

  before_on : (o u : ℕ) → ((other : ℕ) → IsTrue (touches s.journals s.threads o other) → other ≡ u) → IsPrivateShape s.journals s.states s.threads o u → (place : Place) → Accesses next.journals place o
      → AreFrugalBefore next.journals place o
  before_on o u alone old place access = elim (old_or_new_access s.journals t e within place o access) [
    | inl at ↦ frugal_before_on s.journals t e within place o at (old.before place at)
    | inr it ↦
        let same : object ≡ o = let both : Some object ≡ Some o = sym of ∙ it.1 in cc in
        let it_is : t ≡ u = alone t (subst (λ (q : ℕ). IsTrue (touches s.journals s.threads q t)) same touches_own) in
        let shape : IsPrivateShape s.journals s.states s.threads object t = subst (λ (v : ℕ). IsPrivateShape s.journals s.states s.threads object v) (sym it_is) (subst (λ (q : ℕ). IsPrivateShape s.journals s.states s.threads q u) (sym same) old) in
        let marks : IsTrue (marks_for (thread_of s t).phase object) = ap (λ (p : Phase). marks_for p object) is ∙ eq-eqb object object refl in
        subst (λ (p : Place). AreFrugalBefore next.journals p o) (sym it.0)
        (subst (λ (q : ℕ). AreFrugalBefore next.journals (new s.journals t e) q) same (before_this (shape.to_come marks)))
  ]

  pub shape_after_access : HasFrugalShape (proceeded s t (moved Idle Nothing (thread_of s t)) (Some e))
  shape_after_access = shape_on s.journals next.journals s.threads next.threads s.states s.states touches_same (λ o none. refl) (λ o u one old. record {
    state = private_state_on s.journals next.journals s.threads next.threads o u (state_of s o) (λ by h. private_claim o u h) old.state;
    no_fence = no_fence_on o u old.no_fence;
    before = before_on o u one.1 old;
    to_come = to_come_on o u old;
  }) sound.frugal
