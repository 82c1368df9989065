-- How far all threads are replayed.
use Rattle.std.specs.Prelude.{◌≡◌, ℕ, suc, ◌^◌, ◌<◌, Bool, true, false, List, length, Some, slice_get, slice_index, slice_set}
use Rattle.std.specs.List.{sum}
use Rattle.octet_model.specs.declared.event.Event.{Event}
use Rattle.octet_model.specs.declared.event.Event.TheVariants.{Marked}
use Rattle.octet_model.specs.declared.event.Mark.TheVariants.{Draw}
use Rattle.octet_model.specs.declared.script.Script.{Script}
use Rattle.octet_model.specs.declared.log.ThreadLog.{ThreadLog}
use Rattle.octet_model.specs.Thread.{starting_configuration}
use Rattle.octet_model.specs.Machine.{Behavior, Journals, journal_of, PlainState, Finished, heap_after, next_of}
use Rattle.octet_model.specs.Orders.{commands_of, thread_log_of, by_log}
use Rattle.octet_model.specs.Plays.{operation_of}
use Rattle.octet_replay.specs.declared.fault.ReplayFault.{ReplayFault}
use Rattle.octet_replay.specs.declared.fault.ReplayFault.TheVariants.{Misfit}
use Rattle.octet_replay.specs.declared.need.Need.{Need}
use Rattle.octet_replay.specs.declared.thread.ThreadReplay.{ThreadReplay}
use Rattle.octet_replay.specs.declared.replayer.replay.Replay.{Replay}
use Rattle.octet_replay.specs.NextDemand.{demand_of}
use Rattle.octet_replay.specs.declared.next_step.NextStep.{NextStep}
use Rattle.octet_replay.specs.Needs.{NeedsAndCounts, after_step, is_ready, NamesThread}
use Rattle.octet_replay.specs.NextSteps.{as_next, AccessesWithin}
use Rattle.octet_replay.specs.ReplayState.{ReplayState, plain_state}
use Rattle.octet_replay.specs.Threads.{need_of, next_by_counts, DemandsWithin, Grown, HasCounts, HasRoomFor, IsReplayOf, StandsFor, WritesWithin}
use Rattle.octet_replay.specs.Judged.{Finds}

-- the state that contracts see of a replayer: it made as many steps as its threads have events
abbrev pub state_of : Replay → ReplayState
state_of r = record { script = r.script.value; log = r.log.value; steps = sum r.waits.events }

-- each thread of the script is replayed as far as its journal says
abbrev pub AreReplaysOf : Script → List ThreadLog → Journals → List ThreadReplay → Type 0
AreReplaysOf script log journals threads = (thread : ℕ) (t : ThreadReplay) → slice_get threads thread ≡ Some t
    → IsReplayOf (commands_of script thread) (starting_configuration script.fuel) (length script.objects) (thread_log_of log thread) (journal_of journals thread) t

-- each thread has one need: it waits for what is next for it by its log
pub record AreNeedsOf (log : List ThreadLog) (threads : List ThreadReplay) (needs : List Need) : Type 0 where
  pub as_many : length needs ≡ length threads
  pub each : (thread : ℕ) (t : ThreadReplay) (need : Need) → slice_get threads thread ≡ Some t → slice_get needs thread ≡ Some need → need ≡ need_of (next_by_counts (thread_log_of log thread) t)

-- each thread waits for what is next for it, and the counts are those of the state
pub record AwaitsNext (behavior : Behavior) (s : PlainState) (w : NeedsAndCounts) : Type 0 where
  pub as_many : length w.needs ≡ length s.journals
  pub counts : length w.events ≡ length s.journals
  pub needs : (thread : ℕ) (need : Need) → slice_get w.needs thread ≡ Some need → need ≡ need_of (next_of behavior s thread)
  pub events : (thread : ℕ) → slice_index w.events thread ≡ length (journal_of s.journals thread)
  pub draws : w.draws ≡ s.draws

-- the threads, the heap and the needs are those of a state of the plain machine
pub record StandsAt (script : Script) (log : List ThreadLog) (s : PlainState) (threads : List ThreadReplay) (heap : List ℕ) (w : NeedsAndCounts) : Type 0 where
  pub as_many : length threads ≡ length s.journals
  pub each : AreReplaysOf script log s.journals threads
  pub heap_is : heap ≡ s.heap
  pub heap_has : length heap ≡ length script.objects
  pub waits : AwaitsNext (by_log script log) s w

-- the replay stands where the steps of the lowest order that it has made lead
pub record IsAt (r : Replay) : Type 0 where
  pub agree : length r.script.value.threads ≡ length r.log.value.threads
  pub stands : StandsAt r.script.value r.log.value.threads (plain_state (state_of r)) r.threads.items r.heap.items r.waits

-- the test whether an event is a draw
abbrev pub is_draw : Event → Bool
is_draw (Marked (Draw number)) = true
is_draw _ = false

-- a thread may make the event: it stands before it, its need is met, and there is room to count it
pub record CanMake (r : Replay) (thread : ℕ) (event : Event) : Type 0 where
  pub within : thread < length r.threads.items
  pub stands : (t : ThreadReplay) → slice_get r.threads.items thread ≡ Some t → StandsFor event t
  pub room : (t : ThreadReplay) → slice_get r.threads.items thread ≡ Some t → HasRoomFor event t
  pub object : WritesWithin (length r.heap.items) event
  pub met : is_ready r.waits thread ≡ true
  pub names : (t after : ThreadReplay) → slice_get r.threads.items thread ≡ Some t → Grown t event after → NamesThread (length r.waits.needs) (need_of (next_by_counts (thread_log_of r.log.value.threads thread) after))
  pub events : suc (slice_index r.waits.events thread) < 2 ^ 64
  pub draws : is_draw event ≡ true → suc r.waits.draws < 2 ^ 64

-- what is next for a thread with this log. An access names one of the objects, where the thread's demand does
pub record IsNextOf (log : ThreadLog) (t : ThreadReplay) (next : NextStep) : Type 0 where
  pub is : as_next next ≡ next_by_counts log t
  pub within : (objects : ℕ) → DemandsWithin objects t → AccessesWithin objects next

-- what is next for the thread, by its log
abbrev pub IsNextAt : Replay → ℕ → NextStep → Type 0
IsNextAt r thread next = (t : ThreadReplay) → slice_get r.threads.items thread ≡ Some t → IsNextOf (thread_log_of r.log.value.threads thread) t next

-- the replay made the thread's event, and this is what is next for the thread
pub record MakesEvent (before : Replay) (thread : ℕ) (event : Event) (next : NextStep) (after : Replay) : Type 0 where
  pub was : ThreadReplay
  pub becomes : ThreadReplay
  pub is_there : slice_get before.threads.items thread ≡ Some was
  pub grown : Grown was event becomes
  pub next_is : IsNextOf (thread_log_of before.log.value.threads thread) becomes next
  pub threads : after.threads.items ≡ slice_set before.threads.items thread becomes
  pub heap : after.heap.items ≡ heap_after (operation_of event) before.heap.items
  pub waits : after.waits ≡ after_step before.waits thread (is_draw event) (need_of (next_by_counts (thread_log_of before.log.value.threads thread) becomes))
  pub script : after.script ≡ before.script
  pub log : after.log ≡ before.log

-- the number of accesses found of a thread that does not fit its log, by what it demands next
abbrev pub FindsIn : ThreadLog → ThreadReplay → ℕ → Type 0
FindsIn log t found = (journal : List Event) → HasCounts journal t → Finds (demand_of t.up_next) log journal found

-- no number of accesses is found of the thread: it is no misfit
abbrev pub FindsNothing : ThreadLog → ThreadReplay → Type 0
FindsNothing log t = (journal : List Event) (found : ℕ) → HasCounts journal t → ¬ Finds (demand_of t.up_next) log journal found

-- the thread is the lowest misfit, with the accesses that its log says and those found of it
pub record IsLowestMisfit (log : List ThreadLog) (threads : List ThreadReplay) (thread wanted found : ℕ) : Type 0 where
  pub it : ThreadReplay
  pub is_there : slice_get threads thread ≡ Some it
  pub wants : wanted ≡ (thread_log_of log thread).accesses
  pub finds : FindsIn (thread_log_of log thread) it found
  pub lowest : (lower : ℕ) (t : ThreadReplay) → lower < thread → slice_get threads lower ≡ Some t → FindsNothing (thread_log_of log lower) t

-- the fault tells the lowest misfit
abbrev pub TellsMisfit : List ThreadLog → List ThreadReplay → ReplayFault → Type 0
TellsMisfit log threads (Misfit thread wanted found) = IsLowestMisfit log threads thread wanted found
TellsMisfit log threads _ = ⊥

-- a thread has finished: nothing is next for it
abbrev pub IsFinishedHere : List ThreadLog → List ThreadReplay → ℕ → Type 0
IsFinishedHere log threads thread = (t : ThreadReplay) → slice_get threads thread ≡ Some t → next_by_counts (thread_log_of log thread) t ≡ Finished
