-- The past of one event, and what a slice tells.
use Rattle.std.specs.Prelude.{◌≡◌, ℕ, suc, ◌+◌, ◌<◌, ◌≤◌, ◌↔◌, List, length, Some, slice_index, sum_by}
use Rattle.std.specs.List.{sum}
use Rattle.octet_model.specs.declared.event.Place.{Place}
use Rattle.octet_model.specs.declared.log.ThreadLog.{ThreadLog}
use Rattle.octet_model.specs.Machine.{Journals}
use Rattle.octet_model.specs.HappensBefore.{event_at}
use Rattle.octet_model.specs.Orders.{thread_log_of}
use Rattle.octet_model.specs.Past.{InPast}
use Rattle.octet_slice.specs.declared.slicing.Sliced.{Sliced}
use Rattle.octet_slice.specs.declared.slicing.SliceFault.{SliceFault}
use Rattle.octet_slice.specs.declared.slicing.SliceFault.TheVariants.{NoThread, NoEvent, OutOfMemory}

-- the past of a thread's first events has so many first events of each thread, and no others
pub record CountsPast (journals : Journals) (thread now : ℕ) (counts : List ℕ) : Type 0 where
  pub as_many : length counts ≡ length journals
  pub each : (place : Place) → InPast journals thread now place ↔ (place.event < slice_index counts place.thread)

-- the event at the place, the number of events in its past (with it), and the number of all events
pub record IsSliceOf (journals : Journals) (place : Place) (sliced : Sliced) : Type 0 where
  pub is_event : event_at journals place ≡ Some sliced.event
  pub past : List ℕ
  pub is_past : CountsPast journals place.thread (suc place.event) past
  pub made : sliced.made ≡ sum past
  pub all : sliced.all ≡ sum_by (λ journal. length journal) journals

-- the number of events that a thread has by its log
abbrev pub events_of : ThreadLog → ℕ
events_of log = log.accesses + length log.marks

-- the thread is there, and has an event of this number
pub record HasEvent (log : List ThreadLog) (thread event : ℕ) : Type 0 where
  pub has_thread : thread < length log
  pub has_event : event < events_of (thread_log_of log thread)

-- the thread is not there, since only so many threads are
pub record IsNoThread (log : List ThreadLog) (thread threads : ℕ) : Type 0 where
  pub past : length log ≤ thread
  pub has : threads ≡ length log

-- the thread has no event of this number, and has so many events
pub record IsNoEvent (log : List ThreadLog) (thread event events : ℕ) : Type 0 where
  pub has_thread : thread < length log
  pub past : events_of (thread_log_of log thread) ≤ event
  pub has : events ≡ events_of (thread_log_of log thread)

-- the refusal of a slice has its cause. Out of memory alone may come at any time
abbrev pub HasSliceCause : List ThreadLog → ℕ → ℕ → SliceFault → Type 0
HasSliceCause log thread event (NoThread threads) = IsNoThread log thread threads
HasSliceCause log thread event (NoEvent events) = IsNoEvent log thread event events
HasSliceCause log thread event OutOfMemory = Unit {0}
