-- What the fields of a heap, of its markers and of its workers mean to builders.
use Rattle.std.specs.Prelude.{List, map, Option, Some, None}
use Rattle.octet_model.specs.Machine.{Journals}
use Rattle.octet_state.specs.declared.phase.Phase.{Phase}
use Rattle.octet_state.specs.declared.phase.Phase.TheVariants as phase
use Rattle.octet_rule.specs.Seats.{view, threads_of, objects_of, starts_of}
use Rattle.octet_heap.specs.declared.heap.Heap.{Heap}
use Rattle.octet_heap.specs.declared.marker.Marker.{Marker}
use Rattle.octet_heap.specs.declared.worker.Worker.{Worker}
use Rattle.octet_heap.specs.declared.pending_access.PendingAccess.{PendingAccess}
use Rattle.octet_heap.specs.declared.pending_update.PendingUpdate.{PendingUpdate}
use Rattle.octet_heap.specs.Builders.{HeapModel, ThreadModel, Standing, Off, Idle, Accessing, Updating, Blocked}

-- the model of a heap
abbrev pub heap_model : Heap → HeapModel
heap_model heap = record { threads = threads_of heap.words; objects = objects_of heap.words; starts = starts_of heap.words; fuel = heap.fuel }

-- where a thread stands that has begun this, if anything, and is in this phase of the protocol
abbrev pub standing_of : Option PendingAccess → Option PendingUpdate → Phase → Standing
standing_of (Some access) changing now = Accessing access
standing_of None (Some update) now = Updating update
standing_of None None phase.Off = Off
standing_of None None phase.Blocked = Blocked
standing_of None None _ = Idle

-- the model of a marker's thread
abbrev pub marker_model : Marker → ThreadModel
marker_model marker = record { number = (view marker.recorder.seat).number; standing = standing_of marker.pending marker.changing (view marker.recorder.seat).thread.phase; journal = (view marker.recorder.seat).journal }

-- the model of a worker's thread
abbrev pub worker_model : Worker → ThreadModel
worker_model worker = record { number = (view worker.recorder.seat).number; standing = standing_of worker.pending worker.changing (view worker.recorder.seat).thread.phase; journal = (view worker.recorder.seat).journal }

-- the journals of markers
abbrev pub marker_journals : List Marker → Journals
marker_journals markers = map (λ marker. (marker_model marker).journal) markers

-- the journals of workers
abbrev pub worker_journals : List Worker → Journals
worker_journals workers = map (λ worker. (worker_model worker).journal) workers
