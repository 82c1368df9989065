-- The lowest play of ordered journals.
use Rattle.std.proofs.Common.{◌≡◌, ℕ, zero, suc, ◌+◌, ◌<◌, ◌≤◌, List, [], ◌∷◌, ◌++◌, length, Option, Some, None, IsTrue, slice_get, sum_by, refl, sym, ap, ◌∙◌, subst, arith, length-append}
use Rattle.std.proofs.lemmas.Option.{slice_get_past}
use Rattle.std.proofs.lemmas.List.Sums.{sum_by-cons}
use Rattle.octet_model.specs.declared.event.Event.{Event}
use Rattle.octet_model.specs.Machine.{Journals, journal_of, PlainState, no_events, starting_state, Behavior, event_made, appended, may_step, step, after, IsFront, AllFinished}
use Rattle.octet_model.specs.HappensBefore.{IsOrdered}
use Rattle.octet_model.specs.Orders.{lowest, go_on, lowest_front}
use Rattle.octet_model.specs.Plays.{next_in, by_journals, state_after_play, MakesAll, lowest_play}
use Rattle.octet_model.proofs.lemmas.Steps.{what_it_makes}
use Rattle.octet_model.proofs.lemmas.Fronts.{IsDownClosed, down_closed_at_start, remains}
use Rattle.octet_model.proofs.lemmas.LowestThread.{lowest_may, none_may}

module _ (behavior : Behavior) where
  -- where one lawful order has ordered journals, the lowest front comes to its end
  pub lowest_ends : (steps : ℕ) (order : List ℕ) (s : PlainState) → IsDownClosed (after behavior s order).journals s.journals → IsOrdered (after behavior s order).journals
      → IsFront behavior s order → AllFinished behavior (after behavior s order) → length order ≤ steps
      → IsFront behavior s (lowest_front behavior steps s) × (after behavior s (lowest_front behavior steps s) ≡ after behavior s order)
  lowest_ends zero [] s closed ordered front through enough = (tt, refl)
  lowest_ends zero (t ∷ order) s closed ordered front through enough = absurd (omega arith)
  lowest_ends (suc steps) order s closed ordered front through enough =
      by_lowest (lowest behavior s) refl (λ t may.
      let m = remains behavior order s t closed ordered front through may in
      let r = lowest_ends steps m.pulled.rest (step behavior s t) m.closed m.ordered m.pulled.front m.through (omega (arith, m.pulled.shorter)) in
      ((may, r.0), r.1 ∙ m.pulled.ends))
    where
      Comes : List ℕ → Type 0
      Comes low = IsFront behavior s low × (after behavior s low ≡ after behavior s order)

      by_lowest : (o : Option ℕ) → lowest behavior s ≡ o
          → ((t : ℕ) → IsTrue (may_step behavior s t) → Comes (t ∷ lowest_front behavior steps (step behavior s t)))
          → Comes (go_on (lowest behavior s) (λ t. lowest_front behavior steps (step behavior s t)))
      by_lowest None is next = rw is (tt, ap (λ (l : List ℕ). after behavior s l) (sym (none_may behavior s order is front)))
      by_lowest (Some t) is next = rw is (next t (lowest_may behavior s t is))

-- all events of journals
abbrev pub total : Journals → ℕ
total journals = sum_by (λ journal. length journal) journals

pub total_cons : (j : List Event) (js : Journals) → total (j ∷ js) ≡ length j + total js
total_cons j js = sum_by-cons (λ (journal : List Event). length journal) j js

pub total_appended : (js : Journals) (t : ℕ) (e : Event) → t < length js → total (appended js t e) ≡ suc (total js)
total_appended [] t e lt = absurd (omega arith)
total_appended (j ∷ js) zero e lt = omega (arith, total_cons (j ++ e ∷ []) js, total_cons j js, length-append j (e ∷ []))
total_appended (j ∷ js) (suc t) e lt = omega (arith, total_cons (journal_of js t ++ e ∷ []) js, total_cons j (appended js t e), total_cons j js, total_appended js t e (omega arith))

pub total_step : (behavior : Behavior) (s : PlainState) (t : ℕ) → IsTrue (may_step behavior s t) → total (step behavior s t).journals ≡ suc (total s.journals)
total_step behavior s t may =
    let m = what_it_makes behavior s t may in
    ap total m.1.appends ∙ total_appended s.journals t (event_made m.0 s.heap) m.1.within

pub total_after : (behavior : Behavior) (order : List ℕ) (s : PlainState) → IsFront behavior s order → total (after behavior s order).journals ≡ length order + total s.journals
total_after behavior [] s front = omega arith
total_after behavior (t ∷ order) s front =
    omega (arith, total_after behavior order (step behavior s t) front.1, total_step behavior s t front.0)

pub total_none : {A : Type 0} (threads : List A) → total (no_events threads) ≡ 0
total_none [] = refl
total_none (x ∷ threads) = omega (arith, total_cons [] (no_events threads), total_none threads)

-- a play that makes all events comes to its end
pub all_finished : (heap : List ℕ) (journals : Journals) (play : List ℕ) → MakesAll heap journals play → AllFinished (by_journals journals) (state_after_play heap journals play)
all_finished heap journals play all t lt =
    let same = ap (λ (js : Journals). journal_of js t) all.makes in
    ap next_in (ap (λ (j : List Event). slice_get (journal_of journals t) (length j)) same ∙ slice_get_past (journal_of journals t) (length (journal_of journals t)) (omega arith))

-- where some play of ordered journals makes all, the lowest does so too, and ends as that one
pub lowest_makes_all : (heap : List ℕ) (journals : Journals) (play : List ℕ) → IsOrdered journals → MakesAll heap journals play
    → MakesAll heap journals (lowest_play heap journals) × (state_after_play heap journals (lowest_play heap journals) ≡ state_after_play heap journals play)
lowest_makes_all heap journals play ordered all =
    let W = by_journals journals in
    let s = starting_state heap journals in
    let enough = total_after W play s all.is_play in
    let r = lowest_ends W (total journals) play s (down_closed_at_start (state_after_play heap journals play).journals journals)
    (subst IsOrdered (sym all.makes) ordered) all.is_play (all_finished heap journals play all)
    (omega (arith, enough, total_none journals, ap total all.makes)) in
    (record { is_play = r.0; makes = ap (λ (x : PlainState). x.journals) r.1 ∙ all.makes }, r.1)
