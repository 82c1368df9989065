-- The frugal shape of a state, from that of the state before it.
use Rattle.std.proofs.Common.{◌≡◌, ◌≢◌, ℕ, ◌<◌, ◌≤◌, inl, inr, true, false, IsTrue, List, length, sym, ap, ◌∙◌, subst, arith}
use Rattle.std.specs.Prelude.{IsFalse}
use Rattle.std.proofs.lemmas.Bool.{cases_eq, eq-eqb}
use Rattle.std.proofs.lemmas.Option.{slice_get_within}
use Rattle.octet_model.specs.declared.event.Event.{Event}
use Rattle.octet_model.specs.declared.event.Place.{Place}
use Rattle.octet_model.specs.Machine.{Journals, journal_of, appended}
use Rattle.octet_model.specs.Frugal.{marks_at_end, Accesses}
use Rattle.octet_model.proofs.lemmas.Steps.{count, other_journal}
use Rattle.octet_state.specs.declared.state_word.StateWord.{StateWord}
use Rattle.octet_state.specs.declared.state_word.StateWord.TheVariants.{WrEx, RdEx, RdSh, WrInt, RdInt, ShInt}
use Rattle.octet_state.specs.Table.{is_changed_by}
use Rattle.octet_state.specs.State.{Thread, thread_at, state_at}
use Rattle.octet_state.specs.FrugalShape.{has_access, touches, IsUntouched, IsTouchedBy, AsksThreadZero, IsPrivateState, IsPrivateShape, FrugalShapeHolds, AreFrugalBefore, AreFrugalAtEnd}
use Rattle.octet_state.proofs.frames.LongerJournals.{old_or_new_access, before_same}

-- a thread claims the object from thread 0, for its first access
abbrev pub ClaimsFirst : Journals → List Thread → ℕ → ℕ → Type 0
ClaimsFirst journals threads object thread = AsksThreadZero (thread_at threads thread).phase × (thread ≢ 0) × IsFalse (has_access (journal_of journals thread) object)

module _ (before after : Journals) (threads moved : List Thread) where
  -- the state of an object that one thread has to itself stays so, where that thread's claim does if the state is by one
  pub private_state_on : (object u : ℕ) (state : StateWord) → (is_changed_by state u ≡ true → ClaimsFirst before threads object u → ClaimsFirst after moved object u) → IsPrivateState before threads object u state → IsPrivateState after moved object u state
  private_state_on object u (WrEx owner) claims h = h
  private_state_on object u (RdEx owner upto) claims h = h
  private_state_on object u (WrInt by) claims h = let now = claims (eq-eqb by u h.0) (h.1, h.2, h.3) in (h.0, now.0, now.1, now.2)
  private_state_on object u (RdInt by) claims h = let now = claims (eq-eqb by u h.0) (h.1, h.2, h.3) in (h.0, now.0, now.1, now.2)
  private_state_on object u (RdSh number) claims h = h
  private_state_on object u (ShInt by) claims h = h

  -- the shape, where each thread touches what it touched
  pub shape_on : (states changed : List StateWord) → ((object u : ℕ) → touches after moved object u ≡ touches before threads object u)
      → ((object : ℕ) → IsUntouched before threads object → state_at changed object ≡ state_at states object)
      → ((object u : ℕ) → IsTouchedBy before threads object u → IsPrivateShape before states threads object u → IsPrivateShape after changed moved object u)
      → FrugalShapeHolds before states threads → FrugalShapeHolds after changed moved
  shape_on states changed same free private old = record {
    untouched = λ object none. let bare : IsUntouched before threads object = λ u. sym (same object u) ∙ none u in free object bare ∙ old.untouched object bare;
    private = λ object u one. let alone : IsTouchedBy before threads object u = (sym (same object u) ∙ one.0, λ v h. one.1 v (same object v ∙ h)) in private object u alone (old.private object u alone);
  }

  -- the shape, where one thread touches an object now, and other objects are touched as they were
  pub shape_with : (states changed : List StateWord) (object t : ℕ) → IsTrue (touches after moved object t)
      → ((o u : ℕ) → o ≢ object → touches after moved o u ≡ touches before threads o u)
      → ((o : ℕ) → o ≢ object → state_at changed o ≡ state_at states o)
      → ((o u : ℕ) → o ≢ object → IsPrivateShape before states threads o u → IsPrivateShape after changed moved o u)
      → (((other : ℕ) → IsTrue (touches after moved object other) → other ≡ t) → IsPrivateShape after changed moved object t)
      → FrugalShapeHolds before states threads → FrugalShapeHolds after changed moved
  shape_with states changed object t touched same free there here old = record {
    untouched = λ o none. elim (cases_eq o object) [
      | inl is ↦ absurd (let never : touches after moved object t ≡ false = subst (λ (q : ℕ). touches after moved q t ≡ false) is (none t) in let always = touched in cc)
      | inr differ ↦ free o differ ∙ old.untouched o (λ u. sym (same o u differ) ∙ none u)
    ];
    private = λ o u one. elim (cases_eq o object) [
      | inr differ ↦ there o u differ (old.private o u (sym (same o u differ) ∙ one.0, λ v h. one.1 v (same o v differ ∙ h)))
      | inl is ↦
          let alone : (other : ℕ) → IsTrue (touches after moved object other) → other ≡ u = λ v h. one.1 v (subst (λ (q : ℕ). IsTrue (touches after moved q v)) (sym is) h) in
          let it_is : t ≡ u = alone t touched in
          subst (λ (q : ℕ). IsPrivateShape after changed moved q u) (sym is) (subst (λ (v : ℕ). IsPrivateShape after changed moved object v) it_is (here (λ v h. alone v h ∙ sym it_is)))
    ];
  }

-- with one event more
module _ (js : Journals) (t : ℕ) (e : Event) (inside : t < length js) where
  at_most : (place : Place) (object : ℕ) → Accesses js place object → place.event ≤ length (journal_of js place.thread)
  at_most place object access = let h = slice_get_within (journal_of js place.thread) place.event access.0 access.1 in omega arith

  -- an access that was there has the marks before it that it had
  pub frugal_before_on : (place : Place) (object : ℕ) → Accesses js place object → AreFrugalBefore js place object → AreFrugalBefore (appended js t e) place object
  frugal_before_on place object access (inl none) = inl (before_same js t e inside place (at_most place object access) ∙ none)
  frugal_before_on place object access (inr first) = inr record {
    upto = first.upto;
    not_zero = first.not_zero;
    is_first = λ earlier same at. elim (old_or_new_access js t e inside earlier object at) [
      | inl old ↦ first.is_first earlier same old
      | inr it ↦ let thread : place.thread ≡ t = sym same ∙ ap (λ (p : Place). p.thread) it.0 in let event : earlier.event ≡ count js t = ap (λ (p : Place). p.event) it.0 in
          let most : place.event ≤ length (journal_of js t) = subst (λ (v : ℕ). place.event ≤ length (journal_of js v)) thread (at_most place object access) in omega arith
    ];
    one_join = before_same js t e inside place (at_most place object access) ∙ first.one_join;
  }

  -- and so have the journals of the other threads at their ends
  pub frugal_at_end_on : (object u : ℕ) → u ≢ t → AreFrugalAtEnd js object u → AreFrugalAtEnd (appended js t e) object u
  frugal_at_end_on object u differ (inl none) = inl (ap (λ (j : List Event). marks_at_end j) (other_journal js t u e differ) ∙ none)
  frugal_at_end_on object u differ (inr first) = inr record {
    upto = first.upto;
    not_zero = first.not_zero;
    is_first = ap (λ (j : List Event). has_access j object) (other_journal js t u e differ) ∙ first.is_first;
    one_join = ap (λ (j : List Event). marks_at_end j) (other_journal js t u e differ) ∙ first.one_join;
  }
