-- The workers of a heap, all together.
use Rattle.std.specs.Prelude.{◌≡◌, ℕ, ◌<◌, List, [], ◌∷◌, map, length, slice_index_or, None}
use Rattle.octet_model.specs.Machine.{Journals}
use Rattle.octet_state.specs.State.{unstarted}
use Rattle.octet_rule.specs.declared.words.Seat.{Seat}
use Rattle.octet_heap.specs.declared.heap.Heap.{Heap}
use Rattle.octet_heap.specs.declared.worker.Worker.{Worker}
use Rattle.octet_heap.specs.Builders.{Off}
use Rattle.octet_heap.specs.Models.{worker_model}
use Rattle.octet_heap.specs.Workers.{seat_of, IsWorkerOf, Rests}

-- the seats of the workers
abbrev pub seats_in : List Worker → List Seat
seats_in workers = map (λ worker. worker.recorder.seat) workers

-- the journals of the workers' threads
abbrev pub journals_of : List Worker → Journals
journals_of workers = map (λ worker. (seat_of worker).journal) workers

-- each worker has this fuel, has begun no access and no update, and counts no access on the slow path
abbrev pub ArePlain : ℕ → List Worker → Type 0
ArePlain fuel [] = Unit {0}
ArePlain fuel (worker ∷ workers) = ((worker.fuel ≡ fuel) × (worker.pending ≡ None) × (worker.changing ≡ None) × (worker.slow ≡ 0)) × ArePlain fuel workers

-- the worker is that of this thread, and has taken no step
abbrev pub IsNew : Heap → ℕ → Worker → Type 0
IsNew heap thread worker = IsWorkerOf heap worker × ((seat_of worker).number ≡ thread) × ((seat_of worker).thread ≡ unstarted) × ((seat_of worker).journal ≡ []) × ((seat_of worker).trail ≡ []) × (worker.pending ≡ None) × (worker.slow ≡ 0)

-- the worker is that of this thread, before its first call
pub record Starts (heap : Heap) (thread : ℕ) (worker : Worker) : Type 0 where
  pub own : IsWorkerOf heap worker
  pub rests : Rests worker
  pub number : (worker_model worker).number ≡ thread
  pub standing : (worker_model worker).standing ≡ Off
  pub journal : (worker_model worker).journal ≡ []

-- each worker starts, as that of the thread of its place
abbrev pub EachStarts : Heap → List Worker → Type 0
EachStarts heap workers = (thread : ℕ) (none : Worker) → thread < length workers → Starts heap thread (slice_index_or workers thread none)

-- the worker is that of this thread, which is off or blocked
abbrev pub RestsAs : Heap → ℕ → Worker → Type 0
RestsAs heap thread worker = IsWorkerOf heap worker × ((worker_model worker).number ≡ thread) × Rests worker

-- each worker is that of its thread, and has taken no step
abbrev pub EachNew : Heap → List Worker → Type 0
EachNew heap workers = (thread : ℕ) (none : Worker) → thread < length workers → IsNew heap thread (slice_index_or workers thread none)

-- each worker is that of its thread, which is off or blocked
abbrev pub EachRests : Heap → List Worker → Type 0
EachRests heap workers = (thread : ℕ) (none : Worker) → thread < length workers → RestsAs heap thread (slice_index_or workers thread none)
