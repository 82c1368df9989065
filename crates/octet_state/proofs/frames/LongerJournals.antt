-- Journals with one event more: what their ends and their places hold, and of what their pasts know.
use Rattle.std.proofs.Common.{◌≡◌, ◌≢◌, ℕ, suc, ◌+◌, ◌<◌, ◌≤◌, ◌⊎◌, inl, inr, List, [], ◌∷◌, ◌++◌, length, take, Some, IsTrue, refl, sym, ap, ◌∙◌, subst, arith}
use Rattle.std.proofs.lemmas.Bool.{cases_eq}
use Rattle.std.proofs.lemmas.List.{take-append-le}
use Rattle.octet_model.specs.declared.event.Mark.{Mark}
use Rattle.octet_model.specs.declared.event.Mark.TheVariants.{Draw}
use Rattle.octet_model.specs.declared.event.Event.{Event}
use Rattle.octet_model.specs.declared.event.Event.TheVariants.{Marked}
use Rattle.octet_model.specs.declared.event.Place.{Place}
use Rattle.octet_model.specs.Machine.{Journals, journal_of, appended}
use Rattle.octet_model.specs.Journals.{access_count}
use Rattle.octet_model.specs.HappensBefore.{event_at, object_of, is_write}
use Rattle.octet_model.specs.Frugal.{marks_since, marks_at_end, marks_before, Accesses}
use Rattle.octet_model.specs.Past.{InPast}
use Rattle.octet_model.proofs.lemmas.Steps.{count, stays_appended, same_journal, other_journal, new_event}
use Rattle.octet_model.proofs.lemmas.Growth.{path_longer, new, old_or_new}
use Rattle.octet_model.proofs.lemmas.Pasts.{past_stays, past_has_own}
use Rattle.octet_state.specs.Pasts.{Writes, KnowsAccesses, KnowsWrites, KnowsOthers, KnowsDraws, IsDrawAfterWrites}
use Rattle.octet_state.specs.Handover.{KnowsShare}

-- a mark comes after the marks at the end, and after an access stands none
pub ends_marked : (marks : List Mark) (journal : List Event) (mark : Mark) → marks_since marks (journal ++ Marked mark ∷ []) ≡ marks_since marks journal ++ mark ∷ []
ends_marked marks [] mark = refl
ends_marked marks (Marked m ∷ journal) mark = ends_marked (marks ++ m ∷ []) journal mark
ends_marked marks (event ∷ journal) mark = ends_marked [] journal mark

pub ends_access : (marks : List Mark) (journal : List Event) (e : Event) (object : ℕ) → object_of e ≡ Some object → marks_since marks (journal ++ e ∷ []) ≡ []
ends_access marks [] (Marked m) object of = absurd cc
ends_access marks [] e object of = refl
ends_access marks (Marked m ∷ journal) e object of = ends_access (marks ++ m ∷ []) journal e object of
ends_access marks (event ∷ journal) e object of = ends_access [] journal e object of

pub count_more : (journal : List Event) (event : Event) → access_count (journal ++ event ∷ []) ≡ access_count journal + access_count (event ∷ [])
count_more [] event = omega arith
count_more (Marked m ∷ journal) event = count_more journal event
count_more (access ∷ journal) event = omega (arith, count_more journal event)

-- an access is one
pub counts_one : (e : Event) (object : ℕ) → object_of e ≡ Some object → access_count (e ∷ []) ≡ 1
counts_one (Marked m) object of = absurd cc
counts_one e object of = refl

module _ (js : Journals) (t : ℕ) (e : Event) (inside : t < length js) where
  -- an access of the longer journals was there, or is the new event
  pub old_or_new_access : (place : Place) (object : ℕ) → Accesses (appended js t e) place object → (Accesses js place object) ⊎ ((place ≡ new js t e) × (object_of e ≡ Some object))
  old_or_new_access place object access =
      elim (old_or_new js t e place access.0 inside access.1) [
        | inl old ↦ inl (access.0, old, access.2)
        | inr is ↦ inr (is, ap (λ (x : Event). object_of x) (the_new place access.0 is access.1) ∙ access.2)
      ]
    where
      the_new : (place : Place) (x : Event) → place ≡ new js t e → event_at (appended js t e) place ≡ Some x → e ≡ x
      the_new place x is at_x = let at_e : event_at (appended js t e) place ≡ Some e = subst (λ (p : Place). event_at (appended js t e) p ≡ Some e) (sym is) (new_event js t e inside) in let both : Some e ≡ Some x = sym at_e ∙ at_x in cc

  -- the marks before a place that was there
  pub before_same : (place : Place) → place.event ≤ count js place.thread → marks_before (appended js t e) place ≡ marks_before js place
  before_same place old =
      elim (cases_eq place.thread t) [
        | inr differ ↦ ap (λ (j : List Event). marks_at_end (take place.event j)) (other_journal js t place.thread e differ)
        | inl same ↦
            let at_t : take place.event (journal_of (appended js t e) t) ≡ take place.event (journal_of js t) =
            ap (λ (j : List Event). take place.event j) (same_journal js t e inside) ∙ take-append-le place.event (journal_of js t) (e ∷ []) (subst (λ (u : ℕ). place.event ≤ count js u) same old) in
            subst (λ (u : ℕ). marks_at_end (take place.event (journal_of (appended js t e) u)) ≡ marks_at_end (take place.event (journal_of js u))) (sym same) (ap marks_at_end at_t)
      ]

  -- and those before the new event
  pub before_new : marks_before (appended js t e) (new js t e) ≡ marks_at_end (journal_of js t)
  before_new = before_same (new js t e) (omega arith) ∙ ap marks_at_end (take_all (journal_of js t))
    where
      take_all : (journal : List Event) → take (length journal) journal ≡ journal
      take_all [] = refl
      take_all (x ∷ journal) = ap (λ l. x ∷ l) (take_all journal)

  -- knowledge stays where the new event is no access of the object
  pub still_knows_accesses : (object u k : ℕ) → (object_of e ≡ Some object → ⊥) → KnowsAccesses js object u k → KnowsAccesses (appended js t e) object u k
  still_knows_accesses object u k none knows place access =
      elim (old_or_new_access place object access) [
        | inl old ↦ past_stays js t u k e place (knows place old)
        | inr here ↦ absurd (none here.1)
      ]

  -- or is one by the knowing thread itself, after which it stands
  pub now_knows_accesses : (object : ℕ) → KnowsAccesses js object t (count js t) → KnowsAccesses (appended js t e) object t (suc (count js t))
  now_knows_accesses object knows place access =
      elim (old_or_new_access place object access) [
        | inl old ↦ past_stays_on place (knows place old)
        | inr here ↦ subst (λ (p : Place). InPast (appended js t e) t (suc (count js t)) p) (sym here.0)
            (past_has_own (appended js t e) t (suc (count js t)) (count js t) (omega arith) (e, new_event js t e inside))
      ]
    where
      past_stays_on : (place : Place) → InPast js t (count js t) place → InPast (appended js t e) t (suc (count js t)) place
      past_stays_on place h = let longer = past_stays js t t (count js t) e place h in record { is_event = longer.is_event; near = longer.near; below = let b = longer.below in omega arith; reaches = longer.reaches }

  old_or_new_write : (place : Place) (object : ℕ) → Writes (appended js t e) place object → (Writes js place object) ⊎ (IsTrue (is_write e) × (object_of e ≡ Some object))
  old_or_new_write place object write =
      elim (old_or_new js t e place write.0 inside write.1) [
        | inl old ↦ inl (write.0, old, write.2, write.3)
        | inr is ↦ inr (let at_e : event_at (appended js t e) place ≡ Some e = subst (λ (p : Place). event_at (appended js t e) p ≡ Some e) (sym is) (new_event js t e inside) in
            let both : Some e ≡ Some write.0 = sym at_e ∙ write.1 in let same : e ≡ write.0 = cc in
            (subst (λ (x : Event). IsTrue (is_write x)) (sym same) write.3, ap (λ (x : Event). object_of x) same ∙ write.2))
      ]

  pub still_knows_writes : (object u k : ℕ) → (IsTrue (is_write e) × (object_of e ≡ Some object) → ⊥) → KnowsWrites js object u k → KnowsWrites (appended js t e) object u k
  still_knows_writes object u k none knows place write =
      elim (old_or_new_write place object write) [
        | inl old ↦ past_stays js t u k e place (knows place old)
        | inr writes ↦ absurd (none writes)
      ]

  pub draw_still_knows : (object number : ℕ) (draw : Place) → (IsTrue (is_write e) × (object_of e ≡ Some object) → ⊥) → IsDrawAfterWrites js object number draw → IsDrawAfterWrites (appended js t e) object number draw
  draw_still_knows object number draw none h = record {
    is_draw = stays_appended js t draw.thread draw.event e (Marked (Draw number)) h.is_draw;
    knows = λ place write. elim (old_or_new_write place object write) [
      | inl old ↦ path_longer js t e place draw (h.knows place old)
      | inr writes ↦ absurd (none writes)
    ];
  }

  pub still_knows_others : (object u k : ℕ) → (object_of e ≡ Some object → ⊥) ⊎ (u ≡ t) → KnowsOthers js object u k → KnowsOthers (appended js t e) object u k
  still_knows_others object u k none knows place access apart =
      elim (old_or_new_access place object access) [
        | inl old ↦ past_stays js t u k e place (knows place old apart)
        | inr here ↦ elim none [
          | inl not_of ↦ absurd (not_of here.1)
          | inr same ↦ absurd (apart (ap (λ (p : Place). p.thread) here.0 ∙ sym same))
        ]
      ]

  pub still_knows_draws : (upto u k : ℕ) → ((number : ℕ) → e ≡ Marked (Draw number) → number ≤ upto → ⊥) → KnowsDraws js upto u k → KnowsDraws (appended js t e) upto u k
  still_knows_draws upto u k none knows place number is below =
      elim (old_or_new js t e place (Marked (Draw number)) inside is) [
        | inl old ↦ past_stays js t u k e place (knows place number old below)
        | inr here ↦ absurd (none number (let at_e : event_at (appended js t e) place ≡ Some e = subst (λ (p : Place). event_at (appended js t e) p ≡ Some e) (sym here) (new_event js t e inside) in
            let both : Some e ≡ Some (Marked (Draw number)) = sym at_e ∙ is in let same : e ≡ Marked (Draw number) = cc in same) below)
      ]

  pub still_knows_share : (object number x by k : ℕ) → (object_of e ≡ Some object → ⊥) ⊎ (x ≢ t) → ((n : ℕ) → e ≡ Marked (Draw n) → ⊥) ⊎ (x ≢ t)
      → KnowsShare js object number x by k → KnowsShare (appended js t e) object number x by k
  still_knows_share object number x by k no_access no_draw knows place (its, inl access) =
      elim (old_or_new_access place object access) [
        | inl old ↦ past_stays js t by k e place (knows place (its, inl old))
        | inr here ↦ elim no_access [
          | inl not_of ↦ absurd (not_of here.1)
          | inr apart ↦ absurd (apart (sym its ∙ ap (λ (p : Place). p.thread) here.0))
        ]
      ]
  still_knows_share object number x by k no_access no_draw knows place (its, inr drew) =
      elim (old_or_new js t e place (Marked (Draw number)) inside drew) [
        | inl old ↦ past_stays js t by k e place (knows place (its, inr old))
        | inr here ↦ elim no_draw [
          | inl not_drawn ↦ absurd (not_drawn number (let at_e : event_at (appended js t e) place ≡ Some e = subst (λ (p : Place). event_at (appended js t e) p ≡ Some e) (sym here) (new_event js t e inside) in
              let both : Some e ≡ Some (Marked (Draw number)) = sym at_e ∙ drew in let same : e ≡ Marked (Draw number) = cc in same))
          | inr apart ↦ absurd (apart (sym its ∙ ap (λ (p : Place). p.thread) here))
        ]
      ]
