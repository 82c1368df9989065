-- The frugal shape after a mark, of a thread that is on the same objects as before.
use Rattle.std.proofs.Common.{◌≡◌, ℕ, ◌<◌, inl, inr, ◌||◌, IsTrue, List, ◌∷◌, [], ◌++◌, length, Some, Bool, sym, refl, ap, ◌∙◌, subst, get_or-set_same, get_or-set_other}
use Rattle.std.specs.Prelude.{IsFalse}
use Rattle.std.proofs.lemmas.Bool.{cases_eq}
use Rattle.octet_model.specs.declared.event.Mark.{Mark}
use Rattle.octet_model.specs.declared.event.Event.{Event}
use Rattle.octet_model.specs.declared.event.Event.TheVariants.{Marked}
use Rattle.octet_model.specs.declared.event.Place.{Place}
use Rattle.octet_model.specs.Machine.{journal_of, appended}
use Rattle.octet_model.specs.HappensBefore.{object_of}
use Rattle.octet_model.specs.Frugal.{Accesses}
use Rattle.octet_model.proofs.lemmas.Steps.{same_journal, other_journal}
use Rattle.octet_state.specs.State.{Thread, ProtocolState, thread_of, state_of, unstarted}
use Rattle.octet_state.specs.Steps.{proceeded}
use Rattle.octet_state.specs.FrugalShape.{is_object, has_access, marks_for, fences_for, is_on, touches, AsksThreadZero, IsPrivateShape, HasFrugalShape, AreFrugalAtEnd}
use Rattle.octet_state.specs.Soundness.{IsSound}
use Rattle.octet_state.proofs.frames.SeenByOthers.{each_thread}
use Rattle.octet_state.proofs.frames.LongerJournals.{old_or_new_access}
use Rattle.octet_state.proofs.frames.EventMade.{mine}
use Rattle.octet_state.proofs.parts.FrugalShape.{private_state_on, shape_on, frugal_before_on, frugal_at_end_on}

-- no mark is an access
has_access_marked : (journal : List Event) (m : Mark) (object : ℕ) → has_access (journal ++ Marked m ∷ []) object ≡ has_access journal object
has_access_marked [] m object = refl
has_access_marked (e ∷ journal) m object = ap (λ (b : Bool). is_object (object_of e) object || b) (has_access_marked journal m object)

module _ (s : ProtocolState) (t : ℕ) (x : Thread) (m : Mark) (inside : t < length s.threads) (sound : IsSound s)
    (on_same : (object : ℕ) → is_on x.phase object ≡ is_on (thread_of s t).phase object)
    (asks : (u : ℕ) → AsksThreadZero (thread_of s u).phase → AsksThreadZero (thread_of (proceeded s t x (Some (Marked m))) u).phase) where
  abbrev next : ProtocolState
  next = proceeded s t x (Some (Marked m))

  there : t < length s.journals
  there = mine s t x (Marked m) inside sound

  pub access_same : (u object : ℕ) → has_access (journal_of (appended s.journals t (Marked m)) u) object ≡ has_access (journal_of s.journals u) object
  access_same u object =
      elim (cases_eq u t) [
        | inr differ ↦ ap (λ (j : List Event). has_access j object) (other_journal s.journals t u (Marked m) differ)
        | inl same ↦ subst (λ (v : ℕ). has_access (journal_of (appended s.journals t (Marked m)) v) object ≡ has_access (journal_of s.journals v) object) (sym same)
            (ap (λ (j : List Event). has_access j object) (same_journal s.journals t (Marked m) there) ∙ has_access_marked (journal_of s.journals t) m object)
      ]

  touches_same : (object u : ℕ) → touches next.journals next.threads object u ≡ touches s.journals s.threads object u
  touches_same object u = λ i. access_same u object i
      || each_thread s t x inside (Some (Marked m)) (λ v y. is_on y.phase object ≡ is_on (thread_of s v).phase object) (on_same object) (λ v differ. refl) u i

  old_of : (place : Place) (object : ℕ) → Accesses (appended s.journals t (Marked m)) place object → Accesses s.journals place object
  old_of place object access = elim (old_or_new_access s.journals t (Marked m) there place object access) [ inl old ↦ old | inr here ↦ absurd (let no_access = here.1 in cc) ]

  -- where the thread is to fence for no object that it alone touches, and the marks at its journal's end are as they should be
  pub shape_after_mark : ((object : ℕ) → IsPrivateShape s.journals s.states s.threads object t → IsFalse (fences_for x.phase object))
      → ((object : ℕ) → IsPrivateShape s.journals s.states s.threads object t → IsTrue (marks_for x.phase object) → AreFrugalAtEnd (appended s.journals t (Marked m)) object t)
      → HasFrugalShape (proceeded s t x (Some (Marked m)))
  shape_after_mark no_fence comes = shape_on s.journals next.journals s.threads next.threads s.states s.states touches_same (λ object none. refl) (λ object u one old. record {
    state = private_state_on s.journals next.journals s.threads next.threads object u (state_of s object) (λ by h. (asks u h.0, h.1, access_same u object ∙ h.2)) old.state;
    no_fence = elim (cases_eq u t) [
      | inl same ↦ subst (λ (v : ℕ). IsFalse (fences_for (thread_of next v).phase object)) (sym same)
          (subst (λ (y : Thread). IsFalse (fences_for y.phase object)) (sym (get_or-set_same s.threads t x unstarted inside)) (no_fence object (subst (λ (v : ℕ). IsPrivateShape s.journals s.states s.threads object v) same old)))
      | inr differ ↦ subst (λ (y : Thread). IsFalse (fences_for y.phase object)) (sym (get_or-set_other s.threads t u x unstarted differ)) old.no_fence
    ];
    before = λ place access. frugal_before_on s.journals t (Marked m) there place object (old_of place object access) (old.before place (old_of place object access));
    to_come = elim (cases_eq u t) [
      | inl same ↦ λ marks. subst (λ (v : ℕ). AreFrugalAtEnd next.journals object v) (sym same)
          (comes object (subst (λ (v : ℕ). IsPrivateShape s.journals s.states s.threads object v) same old)
          (subst (λ (y : Thread). IsTrue (marks_for y.phase object)) (get_or-set_same s.threads t x unstarted inside) (subst (λ (v : ℕ). IsTrue (marks_for (thread_of next v).phase object)) same marks)))
      | inr differ ↦ λ marks. frugal_at_end_on s.journals t (Marked m) there object u differ (old.to_come (subst (λ (y : Thread). IsTrue (marks_for y.phase object)) (get_or-set_other s.threads t u x unstarted differ) marks))
    ];
  }) sound.frugal
