-- A thread that is replayed alone: on a heap of its own, with its marks passed over.
use Rattle.std.specs.Prelude.{◌≡◌, ◌≢◌, ℕ, ◌<◌, ◌⊎◌, ◌↔◌, List, [], ◌∷◌, ◌++◌, length, map, true, Some, slice_index, slice_index_or}
use Rattle.octet_model.specs.declared.event.Event.{Event}
use Rattle.octet_model.specs.declared.outcome.Outcome.{Outcome}
use Rattle.octet_model.specs.declared.script.Script.{Script}
use Rattle.octet_model.specs.declared.log.ThreadLog.{ThreadLog}
use Rattle.octet_model.specs.Thread.{starting_configuration}
use Rattle.octet_model.specs.Machine.{Next, Wants, Finished, NothingFits, heap_after}
use Rattle.octet_model.specs.Orders.{by_log, commands_of, starting_heap, thread_log_of}
use Rattle.octet_model.specs.Plays.{operation_of}
use Rattle.octet_replay.specs.Threads.{IsReplayOf, end_told, next_event, values_of}
use Rattle.octet_parallel.specs.declared.alone.Alone.{Alone}

-- the heap after the events of one journal
abbrev pub heap_by : List Event → List ℕ → List ℕ
heap_by [] heap = heap
heap_by (event ∷ journal) heap = heap_by journal (heap_after (operation_of event) heap)

-- each of these events is next for the thread, after a journal and on a heap.
-- An event takes its value from what those before it left
abbrev pub MakesAlone : (List Event → Next) → List Event → List ℕ → List Event → Type 0
MakesAlone next made heap [] = Unit {0}
MakesAlone next made heap (event ∷ events) =
    (next_event (next made) heap ≡ Some event) × MakesAlone next (made ++ event ∷ []) (heap_after (operation_of event) heap) events

-- no operation is next for the thread
abbrev pub Stops : Next → Type 0
Stops (Wants operation) = ⊥
Stops Finished = Unit {0}
Stops NothingFits = Unit {0}

-- the thread has made this journal alone, from the starting heap
pub record IsAloneAfter (script : Script) (log : List ThreadLog) (thread : ℕ) (journal : List Event) (alone : Alone) : Type 0 where
  pub of : alone.script.value ≡ script
  pub number : alone.number ≡ thread
  pub makes : MakesAlone (by_log script log thread) [] (starting_heap script) journal
  pub replay : IsReplayOf (commands_of script thread) (starting_configuration script.fuel) (length script.objects) (thread_log_of log thread) journal alone.replay
  pub heap : alone.heap.items ≡ heap_by journal (starting_heap script)

-- the thread has made all that it can make alone. The thread is through exactly where nothing is left of its log
-- and its end is demanded
pub record HasPlayedAlone (script : Script) (log : List ThreadLog) (thread : ℕ) (alone : Alone) : Type 0 where
  pub journal : List Event
  pub made : IsAloneAfter script log thread journal alone
  pub stops : Stops (by_log script log thread journal)
  pub through : (alone.is_through ≡ true) ↔ (by_log script log thread journal ≡ Finished)

-- each thread, at its place, has made all that it can make alone
abbrev pub HavePlayedAlone : Script → List ThreadLog → List Alone → Type 0
HavePlayedAlone script log threads =
    (length threads ≡ length log) × ((thread : ℕ) (none : Alone) → thread < length threads → HasPlayedAlone script log thread (slice_index_or threads thread none))

-- one of the threads changed the object to this value on its own heap, and the value differs from the one at first
pub record ChangesAt (starts : List ℕ) (threads : List Alone) (object value : ℕ) : Type 0 where
  pub thread : ℕ
  pub within : thread < length threads
  pub changed : (none : Alone) → (slice_index (slice_index_or threads thread none).heap.items object ≡ value) × (value ≢ slice_index starts object)

-- no thread changed the object from its value at first, which is this one
pub record KeepsAt (starts : List ℕ) (threads : List Alone) (object value : ℕ) : Type 0 where
  pub kept : value ≡ slice_index starts object
  pub by_all : (thread : ℕ) (none : Alone) → thread < length threads → slice_index (slice_index_or threads thread none).heap.items object ≡ slice_index starts object

-- the value of an object after the threads: one that a thread changed it to, or the one at first
-- where no thread changed it
abbrev pub IsMergedAt : List ℕ → List Alone → ℕ → ℕ → Type 0
IsMergedAt starts threads object value = ChangesAt starts threads object value ⊎ KeepsAt starts threads object value

-- the heap after the threads, merged at each object
abbrev pub AreMerged : List ℕ → List Alone → List ℕ → Type 0
AreMerged starts threads heap =
    (length heap ≡ length starts) × ((object : ℕ) → object < length starts → IsMergedAt starts threads object (slice_index heap object))

-- the outcome of threads that are through, each alone
pub record IsOutcomeOf (script : Script) (threads : List Alone) (outcome : Outcome) : Type 0 where
  pub ends : outcome.ends ≡ map (λ alone. end_told alone.replay) threads
  pub reads : outcome.reads ≡ map (λ alone. values_of alone.replay) threads
  pub heap : AreMerged (starting_heap script) threads outcome.heap

-- the thread is at its start, in a script of its own
abbrev pub IsReady : List ThreadLog → Alone → Type 0
IsReady log alone = (alone.number < length log) × IsAloneAfter alone.script.value log alone.number [] alone

-- each thread is at its start, at its place
abbrev pub AreAtStart : Script → List ThreadLog → List Alone → Type 0
AreAtStart script log threads = (thread : ℕ) (none : Alone) → thread < length threads → IsAloneAfter script log thread [] (slice_index_or threads thread none)

-- the thread made from its start all that it can make alone
pub record PlaysAlone (log : List ThreadLog) (before after : Alone) : Type 0 where
  pub of : after.script.value ≡ before.script.value
  pub number : after.number ≡ before.number
  pub played : HasPlayedAlone before.script.value log before.number after

-- the thread's heap has a value for each object
abbrev pub HasHeapOf : ℕ → Alone → Type 0
HasHeapOf objects alone = length alone.heap.items ≡ objects
