-- What an update by a change leaves of a worker and of a marker, step by step.
use Rattle.std.specs.Prelude.{◌≡◌, ℕ, Some, None}
use Rattle.octet_model.specs.Journals.{access_count}
use Rattle.octet_rule.specs.declared.change.Change.{Change}
use Rattle.octet_heap.specs.declared.heap.Heap.{Heap}
use Rattle.octet_heap.specs.declared.marker.Marker.{Marker}
use Rattle.octet_heap.specs.declared.updated.Updated.{Updated}
use Rattle.octet_heap.specs.declared.worker.Worker.{Worker}
use Rattle.octet_heap.specs.Calls as worker
use Rattle.octet_heap.specs.Markers.{marker_seat, IsMarkerOf, IsSameBuffer}
use Rattle.octet_heap.specs.Markers as marker
use Rattle.octet_heap.specs.Standing.{update_of}
use Rattle.octet_heap.specs.Updates.{answer_after, update_to, PollsToChange}
use Rattle.octet_heap.specs.Waiting.{accesses_after}
use Rattle.octet_heap.specs.Workers.{seat_of, pending_after, IsWorkerOf, IsIdleIfMade}

-- an update of a worker is made with this answer, or is begun
pub record UpdatesWorker (heap : Heap) (object : ℕ) (change : Change) (before : Worker) (answer : Updated) (after : Worker) : Type 0 where
  pub own : IsWorkerOf heap after
  pub pending : after.pending ≡ None
  pub changing : after.changing ≡ pending_after (answer_after change answer) (Some (update_to object change))
  pub idle : IsIdleIfMade (answer_after change answer) after
  pub polls : PollsToChange object change (seat_of before) answer (seat_of after)
  pub number : (seat_of after).number ≡ (seat_of before).number
  pub counts : access_count (seat_of after).journal ≡ accesses_after (answer_after change answer) (access_count (seat_of before).journal)
  pub slow : worker.CountsSlow (update_of object) before (answer_after change answer) after

-- an update of a marker is made with this answer, or is begun
pub record UpdatesMarker (heap : Heap) (object : ℕ) (change : Change) (before : Marker) (answer : Updated) (after : Marker) : Type 0 where
  pub own : IsMarkerOf heap after
  pub pending : after.pending ≡ None
  pub changing : after.changing ≡ pending_after (answer_after change answer) (Some (update_to object change))
  pub idle : marker.IsIdleIfMade (answer_after change answer) after
  pub polls : PollsToChange object change (marker_seat before) answer (marker_seat after)
  pub number : (marker_seat after).number ≡ (marker_seat before).number
  pub counts : access_count (marker_seat after).journal ≡ accesses_after (answer_after change answer) (access_count (marker_seat before).journal)
  pub slow : marker.CountsSlow (update_of object) before (answer_after change answer) after
  pub same : IsSameBuffer before after
