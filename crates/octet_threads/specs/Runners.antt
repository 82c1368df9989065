-- Runners: workers with the threads that they run.
use Rattle.std.specs.Prelude.{◌≡◌, ℕ, ◌<◌, List, length, slice_index_or, Option}
use Rattle.std.specs.Option.{option_map}
use Rattle.octet_model.specs.declared.outcome.End.{End}
use Rattle.octet_model.specs.declared.outcome.End.TheVariants.{Spent}
use Rattle.octet_model.specs.declared.script.Script.{Script}
use Rattle.octet_model.specs.Orders.{commands_of, starting_heap}
use Rattle.octet_interp.specs.declared.demand.Demand.{Demand}
use Rattle.octet_interp.specs.declared.demand.Demand.TheVariants.{Ended, Pause}
use Rattle.octet_interp.specs.Demands.{next_demand}
use Rattle.octet_rule.specs.Conditions.{IsResting}
use Rattle.octet_rule.specs.Rule.{IsSeenBy}
use Rattle.octet_rule.specs.Seats.{objects_of, threads_of, starts_of}
use Rattle.octet_state.specs.State.{ProtocolState}
use Rattle.octet_heap.specs.declared.heap.Heap.{Heap}
use Rattle.octet_heap.specs.declared.worker.Worker.{Worker}
use Rattle.octet_heap.specs.Workers.{seat_of, IsWorkerOf, IsIdle}
use Rattle.octet_live.specs.declared.feed.Feed.{Feed}
use Rattle.octet_live.specs.Feeds.{end_of}
use Rattle.octet_ring.specs.Views.{RingName}
use Rattle.octet_threads.specs.Carrying.{IsLeftBy, TellsAgain}
use Rattle.octet_threads.specs.Tasks.{task_of, Does}
use Rattle.octet_threads.specs.declared.heap.runner.Runner.{Runner}

-- the runner is at rest: its worker is one of this heap's, and is off or blocked.
-- Its thread has as many objects as the heap
pub record IsAtRest (heap : Heap) (runner : Runner) : Type 0 where
  pub own : IsWorkerOf heap runner.worker
  pub rests : IsResting (seat_of runner.worker).thread.phase
  pub objects : runner.config.objects ≡ objects_of heap.words

-- the runner is at work: its worker runs, and has begun no access
pub record IsAtWork (heap : Heap) (runner : Runner) : Type 0 where
  pub own : IsWorkerOf heap runner.worker
  pub idle : IsIdle runner.worker
  pub objects : runner.config.objects ≡ objects_of heap.words

-- the runner has carried out this demand. If the demand is an end, the thread demands it again
pub record HasCarried (heap : Heap) (demand : Demand) (runner : Runner) : Type 0 where
  pub own : IsWorkerOf heap runner.worker
  pub leaves : IsLeftBy demand runner.worker
  pub objects : runner.config.objects ≡ objects_of heap.words
  pub ends : TellsAgain demand runner.config

-- the demand is an end
abbrev pub IsEnd : Demand → Type 0
IsEnd (Ended end) = Unit {0}
IsEnd _ = ⊥

-- the worker's thread was where its seat knows it to be, in some sound state
pub record IsSeen (worker : Worker) : Type 0 where
  pub state : ProtocolState
  pub seen : IsSeenBy (seat_of worker) state

-- the runner is at rest, and its thread demands its end
pub record HasEnded (heap : Heap) (runner : Runner) : Type 0 where
  pub rests : IsAtRest heap runner
  pub ends : IsEnd (next_demand runner.config)
  pub seen : IsSeen runner.worker

-- the thread of a feed and the name of its ring, if there is a feed
abbrev pub end_by : Option Feed → Option (ℕ × RingName)
end_by feed = option_map end_of feed

-- the runner is of the same thread, and sends by the same ring, if it sends
pub record IsSame (before after : Runner) : Type 0 where
  pub number : (seat_of after.worker).number ≡ (seat_of before.worker).number
  pub commands : after.config.commands ≡ before.config.commands
  pub end : end_by after.feed ≡ end_by before.feed

-- the worker has rested, by the steps of a pause, and its thread stayed where it was
pub record HasRested (before after : Runner) : Type 0 where
  pub steps : Does (task_of Pause) (seat_of before.worker) (seat_of after.worker)
  pub journal : (seat_of after.worker).journal ≡ (seat_of before.worker).journal
  pub number : (seat_of after.worker).number ≡ (seat_of before.worker).number
  pub config : after.config ≡ before.config
  pub feed : after.feed ≡ before.feed

-- the runner is that of this thread of a script
pub record IsOf (script : Script) (thread : ℕ) (runner : Runner) : Type 0 where
  pub number : (seat_of runner.worker).number ≡ thread
  pub commands : runner.config.commands ≡ commands_of script thread

-- each thread of a script has its runner, in order
pub record AreOf (script : Script) (runners : List Runner) : Type 0 where
  pub as_many : length runners ≡ length script.threads
  pub each : (thread : ℕ) (none : Runner) → thread < length runners → IsOf script thread (slice_index_or runners thread none)

-- the heap is for the threads of a script, with its objects
pub record IsHeapOf (script : Script) (heap : Heap) : Type 0 where
  pub threads : threads_of heap.words ≡ length script.threads
  pub fuel : heap.fuel ≡ script.fuel
  pub starts : starts_of heap.words ≡ starting_heap script

-- the end of a thread that demands its end
abbrev pub end_told : Demand → End
end_told (Ended end) = end
end_told _ = Spent
