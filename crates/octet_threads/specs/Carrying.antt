-- What a clause says of a worker that carries out the demands of its thread.
use Rattle.std.specs.Prelude.{◌≡◌, ◌<◌, true, false, None}
use Rattle.octet_model.specs.Journals.{access_count}
use Rattle.octet_model.specs.Thread.{Configuration, starting_configuration}
use Rattle.octet_interp.specs.declared.demand.Demand.{Demand}
use Rattle.octet_interp.specs.declared.demand.Demand.TheVariants.{Ended}
use Rattle.octet_interp.specs.Demands.{ThreadState, next_demand}
use Rattle.octet_interp.specs.Laws.{IsJournalOf}
use Rattle.octet_state.specs.declared.phase.Phase.TheVariants.{Blocked}
use Rattle.octet_machine.specs.Machine.{is_access}
use Rattle.octet_rule.specs.Seats.{objects_of}
use Rattle.octet_heap.specs.declared.heap.Heap.{Heap}
use Rattle.octet_heap.specs.declared.worker.Worker.{Worker}
use Rattle.octet_heap.specs.Workers.{seat_of, IsWorkerOf, IsIdle}
use Rattle.octet_threads.specs.Tasks.{task_of, Does}

-- the thread may make one more access, or demands none
abbrev pub HasAccessLeft : Heap → Worker → ThreadState → Type 0
HasAccessLeft heap worker state = is_access (next_demand state) ≡ true → access_count (seat_of worker).journal < heap.fuel

-- the worker is blocked after its thread's end, and idle after any other demand
abbrev pub IsLeftBy : Demand → Worker → Type 0
IsLeftBy (Ended end) worker = ((seat_of worker).thread.phase ≡ Blocked) × (worker.pending ≡ None)
IsLeftBy _ worker = IsIdle worker

-- an end that was demanded is demanded again
abbrev pub TellsAgain : Demand → ThreadState → Type 0
TellsAgain (Ended end) state = next_demand state ≡ Ended end
TellsAgain _ state = Unit {0}

-- the worker's journal fits the thread and leaves it where it stands, from any start from which it did so before
abbrev pub KeepsUp : Worker → ThreadState → Worker → ThreadState → Type 0
KeepsUp worker state worker_after state_after = (start : Configuration) → IsJournalOf start (seat_of worker).journal state → IsJournalOf start (seat_of worker_after).journal state_after

-- an idle worker of this heap may carry out what its thread demands next.
-- The thread has as many objects as the heap, and no read of it waits for its value
pub record CanCarry (heap : Heap) (worker : Worker) (state : ThreadState) : Type 0 where
  pub own : IsWorkerOf heap worker
  pub idle : IsIdle worker
  pub more : HasAccessLeft heap worker state
  pub objects : state.objects ≡ objects_of heap.words
  pub waits : state.waits ≡ false

-- the worker has carried out this demand, which its thread had next, by the steps of that demand and no others.
-- The thread is the same, and stands where the worker's journal leaves it
pub record Carries (heap : Heap) (worker : Worker) (state : ThreadState) (demand : Demand) (worker_after : Worker) (state_after : ThreadState) : Type 0 where
  pub own : IsWorkerOf heap worker_after
  pub left : IsLeftBy demand worker_after
  pub number : (seat_of worker_after).number ≡ (seat_of worker).number
  pub is_next : demand ≡ next_demand state
  pub commands : state_after.commands ≡ state.commands
  pub objects : state_after.objects ≡ state.objects
  pub waits : state_after.waits ≡ false
  pub ends : TellsAgain demand state_after
  pub steps : Does (task_of demand) (seat_of worker) (seat_of worker_after)
  pub journal : KeepsUp worker state worker_after state_after

-- the start of a worker's thread, with its heap's fuel
abbrev pub start_of : Worker → Configuration
start_of worker = starting_configuration worker.fuel
