-- The events of a trace and those of the journals.
use Rattle.std.proofs.Common.{◌≡◌, ℕ, zero, suc, ◌+◌, ◌*◌, ◌^◌, ◌<◌, ◌≤◌, inl, inr, List, [], ◌∷◌, length, get_or, Some, IsTrue, slice_get, sym, ap, ◌∙◌, subst, arith}
use Rattle.std.proofs.lemmas.Bool.{cases_lt}
use Rattle.std.proofs.lemmas.Option.{same_Some, slice_get_within}
use Rattle.octet_model.specs.declared.event.Event.{Event}
use Rattle.octet_model.specs.declared.event.Place.{Place}
use Rattle.octet_model.specs.declared.log.ThreadLog.{ThreadLog}
use Rattle.octet_model.specs.declared.script.Script.{Script}
use Rattle.octet_model.specs.Log.{is_log}
use Rattle.octet_model.specs.Machine.{Journals, journal_of, PlainState, Behavior, event_made, step, after, IsFront}
use Rattle.octet_model.specs.HappensBefore.{event_at}
use Rattle.octet_model.specs.Orders.{by_log, opening_state, journals_after, lowest_order}
use Rattle.octet_model.specs.Traces.{trace_along, trace_of}
use Rattle.octet_model.proofs.lemmas.Fronts.{no_journal, stays}
use Rattle.octet_model.proofs.lemmas.Plays.{total, total_cons, total_after, total_none}
use Rattle.octet_model.proofs.lemmas.Steps.{at, count, made_there, where_made}
use Rattle.octet_replay.proofs.lemmas.Places.{lowest_order_fits_in_places}
use Rattle.octet_replay.proofs.lemmas.Traces.{lowest_order_is_front, placed, trace_cons}

module _ (V : Behavior) where
  -- what a front tells stands at its place
  in_journals : (order : List ℕ) (s : PlainState) (n : ℕ) (item : Place × Event) → IsFront V s order → slice_get (trace_along V s order) n ≡ Some item
      → at (after V s order).journals item.0.thread item.0.event ≡ Some item.1
  in_journals [] s n item front is = absurd cc
  in_journals (t ∷ order) s zero item front is =
      let c = trace_cons V t order s front.0 in
      let one : placed s t c.0 ≡ item = same_Some (placed s t c.0) item (sym (ap (λ (l : List (Place × Event)). slice_get l 0) c.2) ∙ is) in
      subst (λ (i : Place × Event). at (after V (step V s t) order).journals i.0.thread i.0.event ≡ Some i.1) one
      (stays V order (step V s t) t (count s.journals t) (event_made c.0 s.heap) (made_there V s t c.0 c.1))
  in_journals (t ∷ order) s (suc n) item front is =
      let c = trace_cons V t order s front.0 in
      in_journals order (step V s t) n item front.1 (sym (ap (λ (l : List (Place × Event)). slice_get l (suc n)) c.2) ∙ is)

  -- and what stands at a place past the beginning is told
  in_trace : (order : List ℕ) (s : PlainState) (place : Place) (e : Event) → IsFront V s order → count s.journals place.thread ≤ place.event → at (after V s order).journals place.thread place.event ≡ Some e
      → (n : ℕ) × (x : Event) × (slice_get (trace_along V s order) n ≡ Some (place, x))
  in_trace [] s place e front old is = absurd (omega (arith, slice_get_within (journal_of s.journals place.thread) place.event e is))
  in_trace (t ∷ order) s place e front old is =
      let c = trace_cons V t order s front.0 in
      elim (cases_lt place.event (count (step V s t).journals place.thread)) [
        | inl new ↦
            let w = where_made V s t place.thread place.event c.0 c.1 old new in
            let here : placed s t c.0 ≡ (place, event_made c.0 s.heap) = λ i. (record { thread = sym w.0 i; event = sym w.1 i }, event_made c.0 s.heap) in
            (0, event_made c.0 s.heap, ap (λ (l : List (Place × Event)). slice_get l 0) c.2 ∙ ap (λ (i : Place × Event). Some i) here)
        | inr later ↦
            let r = in_trace order (step V s t) place e front.1 later is in
            (suc r.0, r.1, ap (λ (l : List (Place × Event)). slice_get l (suc r.0)) c.2 ∙ r.2)
      ]

module _ (script : Script) (log : List ThreadLog) where
  abbrev J : Journals
  J = journals_after script log (lowest_order script log)

  pub told_stands : (n : ℕ) (item : Place × Event) → slice_get (trace_of script log) n ≡ Some item → event_at J item.0 ≡ Some item.1
  told_stands n item is = in_journals (by_log script log) (lowest_order script log) (opening_state script) n item (lowest_order_is_front script log) is

  pub stands_told : (place : Place) (e : Event) → event_at J place ≡ Some e → (n : ℕ) × (x : Event) × (slice_get (trace_of script log) n ≡ Some (place, x))
  stands_told place e is =
      in_trace (by_log script log) (lowest_order script log) (opening_state script) place e (lowest_order_is_front script log)
      (omega (arith, ap (λ (j : List Event). length j) (no_journal script.threads place.thread))) is

-- ---- the order is short

few_in_all : (most : ℕ) (js : Journals) → ((t : ℕ) (d : List Event) → t < length js → length (get_or js t d) < most) → total js ≤ length js * most
few_in_all most [] each = omega arith
few_in_all most (j ∷ js) each =
    let first : length j < most = each 0 [] (omega arith) in
    let rest = few_in_all most js (λ t d lt. each (suc t) d (omega arith)) in
    let more : suc (length js) * most ≡ most + length js * most = omega arith in
    omega (arith, total_cons j js, first, rest, more)

pub order_is_short : (script : Script) (log : List ThreadLog) → length script.threads ≡ length log → IsTrue (is_log log) → length (lowest_order script log) ≤ 2 ^ 36
order_is_short script log agree valid =
    let order = lowest_order script log in
    let V = by_log script log in
    let fits = lowest_order_fits_in_places script log agree valid in
    let all = total_after V order (opening_state script) (lowest_order_is_front script log) in
    let few = few_in_all (2 ^ 32) (journals_after script log order) (λ t d lt. fits.events t d lt) in
    omega (arith, all, total_none script.threads, few, fits.threads)
