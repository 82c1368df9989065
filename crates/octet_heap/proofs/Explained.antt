-- One history of journals explains the values with which it ends.
use Rattle.std.proofs.Common.{◌≡◌, ◌∙◌, ℕ, List, [], ◌∷◌, length, map, Option, Some, None, Result, Ok, Err, IfOk, slice_get, sym, refl, ap, subst, subst₂}
use Rattle.octet_model.specs.declared.event.Event.{Event}
use Rattle.octet_model.specs.declared.event.Event.TheVariants.{Read, Write, Update, Marked}
use Rattle.octet_model.specs.Machine.{Journals, journal_of, PlainState, no_events, starting_state, Operation, Wants, event_made, heap_after, appended, step, after, IsFront}
use Rattle.octet_model.specs.Plays.{operation_of, next_in, by_journals, lowest_play, IsOneHistory}
use Rattle.octet_model.proofs.lemmas.Steps.{at, count, what_it_makes, made_there}
use Rattle.octet_model.proofs.lemmas.Fronts.{stays}
use Rattle.octet_rule.specs.Seats.{view, Closes}
use Rattle.octet_rule.specs.declared.words.Seat.{Seat}
use Rattle.octet_heap.specs.declared.marker.Marker.{Marker}
use Rattle.octet_heap.specs.declared.worker.Worker.{Worker}
use Rattle.octet_heap.specs.Builders.{TakesValue, values_after, LeadsTo, IsExplained}
use Rattle.octet_heap.specs.Markers.{marker_seats}
use Rattle.octet_heap.specs.Models.{marker_journals, worker_journals}
use Rattle.octet_heap.specs.Seated as seated
use Rattle.octet_heap.proofs.Seating.{same_journals}

-- what a play wants of a thread is its next event
next_event : (o : Option Event) (w : Operation) → next_in o ≡ Wants w → (e : Event) × (o ≡ Some e) × (operation_of e ≡ w)
next_event None w is = absurd cc
next_event (Some e) w is = (e, refl, cc)

-- an event that is made as it is takes what is there
takes : (e : Event) (values : List ℕ) → event_made (operation_of e) values ≡ e → TakesValue e values
takes (Read object value) values is = cc
takes (Update object before after) values is = cc
takes (Write object value) values is = tt
takes (Marked mark) values is = tt

leaves : (e : Event) (values : List ℕ) → heap_after (operation_of e) values ≡ values_after e values
leaves (Read object value) values = refl
leaves (Update object before after) values = refl
leaves (Write object value) values = refl
leaves (Marked mark) values = refl

module _ (journals : Journals) where
  leads : (play : List ℕ) (s : PlainState) → IsFront (by_journals journals) s play → (after (by_journals journals) s play).journals ≡ journals
      → LeadsTo journals (after (by_journals journals) s play).heap play s.journals s.heap
  leads [] s front all = (all, refl)
  leads (t ∷ play) s front all =
      let W = by_journals journals in
      let m = what_it_makes W s t front.0 in
      let next = next_event (slice_get (journal_of journals t) (length (journal_of s.journals t))) m.0 m.1.wanted in
      let made = stays W play (step W s t) t (count s.journals t) (event_made m.0 s.heap) (made_there W s t m.0 m.1) in
      let stands : at journals t (count s.journals t) ≡ Some (event_made m.0 s.heap) = ap (λ (js : Journals). at js t (count s.journals t)) (sym all) ∙ made in
      let found : at journals t (count s.journals t) ≡ Some next.0 = next.1 in
      let same : event_made m.0 s.heap ≡ next.0 = cc (stands, found) in
      let last = (after W s (t ∷ play)).heap in
      let grown : (step W s t).journals ≡ appended s.journals t next.0 = m.1.appends ∙ ap (appended s.journals t) same in
      let left : (step W s t).heap ≡ values_after next.0 s.heap = ap (λ (x : PlainState). x.heap) m.1.stepped ∙ (ap (λ (o : Operation). heap_after o s.heap) (sym next.2) ∙ leaves next.0 s.heap) in (
        next.0,
        next.1,
        takes next.0 s.heap (ap (λ (o : Operation). event_made o s.heap) next.2 ∙ same),
        subst₂ (λ (js : Journals) (values : List ℕ). LeadsTo journals last play js values) grown left (leads play (step W s t) front.1 all),
      )

pub explained : (starts : List ℕ) (journals : Journals) (values : List ℕ) (draws : ℕ) → IsOneHistory starts journals values draws → IsExplained starts journals values
explained starts journals values draws history = let play = lowest_play starts journals in record {
  order = play;
  leads = subst (λ (last : List ℕ). LeadsTo journals last play (no_events journals) starts) history.gives (leads journals play (starting_state starts journals) history.makes_all.is_play history.makes_all.makes);
}

-- what a run leaves is explained by the journals of its seats
pub closes_explained : (starts : List ℕ) (seats : List Seat) (values : List ℕ) → Closes starts seats values → IsExplained starts (map (λ seat. (view seat).journal) seats) values
closes_explained starts seats values closes = let s = closes.last in
    subst (λ (first : List ℕ). IsExplained first (map (λ seat. (view seat).journal) seats) values) closes.began
    (subst₂ (λ (js : Journals) (last : List ℕ). IsExplained s.starts js last) closes.journals closes.cells
    (explained s.starts s.journals s.cells s.counter closes.sound.one_history))

same_marker_journals : (markers : List Marker) → map (λ (seat : Seat). (view seat).journal) (marker_seats markers) ≡ marker_journals markers
same_marker_journals [] = refl
same_marker_journals (m ∷ markers) = ap (λ (js : Journals). (view m.recorder.seat).journal ∷ js) (same_marker_journals markers)

pub markers_explained : {E : Type 0} (starts : List ℕ) (markers : List Marker) (closed : Result (List ℕ) E) → IfOk closed (λ values. Closes starts (marker_seats markers) values)
    → IfOk closed (λ values. IsExplained starts (marker_journals markers) values)
markers_explained starts markers (Ok values) closes = subst (λ (js : Journals). IsExplained starts js values) (same_marker_journals markers) (closes_explained starts (marker_seats markers) values closes)
markers_explained starts markers (Err e) closes = tt

pub workers_explained : (starts : List ℕ) (workers : List Worker) (seats : List Seat) (values : List ℕ) → seats ≡ seated.seats_in workers → Closes starts seats values → IsExplained starts (worker_journals workers) values
workers_explained starts workers seats values are closes =
    subst (λ (js : Journals). IsExplained starts js values) (ap (map (λ (seat : Seat). (view seat).journal)) are ∙ same_journals workers) (closes_explained starts seats values closes)
