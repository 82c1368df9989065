-- Journals with one event more: which accesses they have, and which marks stand before these.
use Rattle.std.proofs.Common.{◌≡◌, ℕ, ◌<◌, ◌≤◌, ◌⊎◌, inl, inr, List, [], ◌∷◌, ◌++◌, length, take, Some, refl, sym, ap, ◌∙◌, subst, arith}
use Rattle.std.proofs.lemmas.Bool.{cases_eq}
use Rattle.std.proofs.lemmas.List.{take-append-le, take_all}
use Rattle.octet_model.specs.declared.event.Mark.{Mark}
use Rattle.octet_model.specs.declared.event.Event.{Event}
use Rattle.octet_model.specs.declared.event.Event.TheVariants.{Marked}
use Rattle.octet_model.specs.declared.event.Place.{Place}
use Rattle.octet_model.specs.Machine.{Journals, journal_of, appended}
use Rattle.octet_model.specs.HappensBefore.{event_at, object_of, Conflict, IsOrdered}
use Rattle.octet_model.specs.Frugal.{marks_since, marks_at_end, marks_before, Accesses, IsPrivate}
use Rattle.octet_model.proofs.lemmas.Steps.{count, stays_appended, same_journal, other_journal, new_event}
use Rattle.octet_model.proofs.lemmas.Growth.{new, old_or_new, ordered_longer}

-- a mark comes after the marks at the end, and after an access stands none
pub ends_marked : (marks : List Mark) (journal : List Event) (mark : Mark) → marks_since marks (journal ++ Marked mark ∷ []) ≡ marks_since marks journal ++ mark ∷ []
ends_marked marks [] mark = refl
ends_marked marks (Marked m ∷ journal) mark = ends_marked (marks ++ m ∷ []) journal mark
ends_marked marks (event ∷ journal) mark = ends_marked [] journal mark

pub ends_access : (marks : List Mark) (journal : List Event) (e : Event) (object : ℕ) → object_of e ≡ Some object → marks_since marks (journal ++ e ∷ []) ≡ []
ends_access marks [] (Marked m) object of = absurd cc
ends_access marks [] e object of = refl
ends_access marks (Marked m ∷ journal) e object of = ends_access (marks ++ m ∷ []) journal e object of
ends_access marks (event ∷ journal) e object of = ends_access [] journal e object of

module _ (js : Journals) (t : ℕ) (e : Event) (inside : t < length js) where
  pub the_new : (p : Place) (x : Event) → p ≡ new js t e → event_at (appended js t e) p ≡ Some x → e ≡ x
  the_new p x is at_x = let at_e : event_at (appended js t e) p ≡ Some e = subst (λ (q : Place). event_at (appended js t e) q ≡ Some e) (sym is) (new_event js t e inside) in let both : Some e ≡ Some x = sym at_e ∙ at_x in cc

  -- an event of the longer journals was there, or is the new one
  pub old_or_this : (p : Place) (x : Event) → event_at (appended js t e) p ≡ Some x → (event_at js p ≡ Some x) ⊎ ((p ≡ new js t e) × (e ≡ x))
  old_or_this p x at_x = elim (old_or_new js t e p x inside at_x) [
    | inl old ↦ inl old
    | inr is ↦ inr (is, the_new p x is at_x)
  ]

  pub old_or_new_access : (p : Place) (object : ℕ) → Accesses (appended js t e) p object → (Accesses js p object) ⊎ ((p ≡ new js t e) × (object_of e ≡ Some object))
  old_or_new_access p object access = elim (old_or_this p access.0 access.1) [
    | inl old ↦ inl (access.0, old, access.2)
    | inr is ↦ inr (is.0, ap (λ (x : Event). object_of x) is.1 ∙ access.2)
  ]

  pub still_accesses : (p : Place) (object : ℕ) → Accesses js p object → Accesses (appended js t e) p object
  still_accesses p object access = (access.0, stays_appended js t p.thread p.event e access.0 access.1, access.2)

  -- what one thread has to itself in the longer journals it had before
  pub was_private : (object thread : ℕ) → IsPrivate (appended js t e) object thread → IsPrivate js object thread
  was_private object thread private p access = private p (still_accesses p object access)

  -- the marks before a place that was there
  pub before_same : (p : Place) → p.event ≤ count js p.thread → marks_before (appended js t e) p ≡ marks_before js p
  before_same p old = elim (cases_eq p.thread t) [
    | inr differ ↦ ap (λ (j : List Event). marks_at_end (take p.event j)) (other_journal js t p.thread e differ)
    | inl same ↦
        let at_t : take p.event (journal_of (appended js t e) t) ≡ take p.event (journal_of js t) =
        ap (λ (j : List Event). take p.event j) (same_journal js t e inside) ∙ take-append-le p.event (journal_of js t) (e ∷ []) (subst (λ (u : ℕ). p.event ≤ count js u) same old) in
        subst (λ (u : ℕ). marks_at_end (take p.event (journal_of (appended js t e) u)) ≡ marks_at_end (take p.event (journal_of js u))) (sym same) (ap marks_at_end at_t)
  ]

  -- and those before the new event
  pub before_new : marks_before (appended js t e) (new js t e) ≡ marks_at_end (journal_of js t)
  before_new = before_same (new js t e) (omega arith) ∙ ap marks_at_end (take_all (count js t) (journal_of js t) (omega arith))

-- journals stay ordered after a mark
pub mark_keeps_order : (js : Journals) (t : ℕ) (m : Mark) → t < length js → IsOrdered js → IsOrdered (appended js t (Marked m))
mark_keeps_order js t m inside ordered = ordered_longer js t (Marked m) inside ordered (λ a c. absurd (none a c))
  where
    none : (a : Place) → Conflict (appended js t (Marked m)) a (new js t (Marked m)) → ⊥
    none a c = let at_m = new_event js t (Marked m) inside in let both : Some (Marked m) ≡ Some c.second = sym at_m ∙ c.is_second in let same : Marked m ≡ c.second = cc in
        let it : object_of (Marked m) ≡ Some c.object = ap (λ (e : Event). object_of e) same ∙ c.of_same in cc
