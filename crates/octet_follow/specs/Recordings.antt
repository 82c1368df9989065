-- Recordings of threads, of which nothing but the marks is kept.
use Rattle.std.specs.Prelude.{◌≡◌, ℕ, ◌<◌, ◌≤◌, nat_lt, Bool, true, false, List, ◌∷◌, ◌++◌, length, Some, slice_get}
use Rattle.octet_model.specs.declared.event.Event.{Event}
use Rattle.octet_model.specs.declared.event.Event.TheVariants.{Read, Write, Update, Marked}
use Rattle.octet_model.specs.declared.log.Gapped.{Gapped}
use Rattle.octet_model.specs.declared.log.ThreadLog.{ThreadLog}
use Rattle.octet_model.specs.Machine.{Journals, journal_of, PlainState, starting_state, Next, Wants, Finished, NothingFits, MakeRead, MakeWrite, MakeUpdate, Behavior, after, IsOrder}
use Rattle.octet_model.specs.Journals.{access_count, mark_count, gap_after, gapped_marks, due_mark, mark_first}
use Rattle.octet_model.specs.HappensBefore.{IsOrdered}
use Rattle.octet_model.specs.Plans.{thread_log_of}

-- what a thread demands: a read, a write of a value, an update that changes the value of an object, or its end
pub data Demand : Type 0 where
  ToRead : (object : ℕ) → Demand
  ToWrite : (object value : ℕ) → Demand
  ToUpdate : (object : ℕ) (change : ℕ → ℕ) → Demand
  ToEnd : Demand

-- threads: what each demands next, by what it has made and was told so far
abbrev pub Threads : Type 0
Threads = ℕ → List Event → Demand

-- the access that a thread demands, where its log has an access left.
-- The thread is through where it demands its end and its log has no access and no mark left
abbrev pub next_access : Demand → Bool → Bool → Next
next_access (ToRead object) true mark_left = Wants (MakeRead object)
next_access (ToWrite object value) true mark_left = Wants (MakeWrite object value)
next_access (ToUpdate object change) true mark_left = Wants (MakeUpdate object change)
next_access ToEnd false false = Finished
next_access _ _ _ = NothingFits

-- what a thread does next by the marks of its log: its next mark where that is due, else the access that it demands
abbrev pub next_by_marks : Demand → ThreadLog → List Event → Next
next_by_marks demand log journal =
    mark_first (due_mark (slice_get log.marks (mark_count journal)) (gap_after 0 journal))
    (next_access demand (nat_lt (access_count journal) log.accesses) (nat_lt (mark_count journal) (length log.marks)))

-- what the threads do next by the marks of a log
abbrev pub by_marks : Threads → List ThreadLog → Behavior
by_marks threads log thread journal = next_by_marks (threads thread journal) (thread_log_of log thread) journal

-- a recording of these threads, from these starting values on: by the marks of the log they run to their ends
-- in some order, with these journals and this heap, and the marks order all conflicts
pub record IsRecording (threads : Threads) (starts : List ℕ) (log : List ThreadLog) (end : PlainState) : Type 0 where
  pub order : List ℕ
  pub is_order : IsOrder (by_marks threads log) (starting_state starts log) order
  pub ends : after (by_marks threads log) (starting_state starts log) order ≡ end
  pub ordered : IsOrdered end.journals

-- the event is what is demanded
abbrev pub IsDemanded : Demand → Event → Type 0
IsDemanded demand (Read object value) = demand ≡ ToRead object
IsDemanded demand (Write object value) = demand ≡ ToWrite object value
IsDemanded demand (Update object before after) = (change : ℕ → ℕ) × (demand ≡ ToUpdate object change) × (after ≡ change before)
IsDemanded demand (Marked mark) = Unit {0}

-- each access of the journal is what the thread demands, by what the journal has before it
abbrev pub IsDemandedBy : (List Event → Demand) → List Event → Type 0
IsDemandedBy thread journal = (before : List Event) (event : Event) (later : List Event) → journal ≡ before ++ event ∷ later → IsDemanded (thread before) event

-- and after it the thread demands its end
pub record IsDemandedToEnd (thread : List Event → Demand) (journal : List Event) : Type 0 where
  pub demanded : IsDemandedBy thread journal
  pub ends : thread journal ≡ ToEnd

-- the first of these marks has at least so many accesses before it
abbrev pub Ahead : List Gapped → ℕ → Type 0
Ahead rest gap = (next : Gapped) → slice_get rest 0 ≡ Some next → gap ≤ next.gap

-- the journal has the first accesses and marks of the log, and the next mark is still to come
pub record IsOnTrack (log : ThreadLog) (journal : List Event) : Type 0 where
  pub accesses : access_count journal ≤ log.accesses
  pub rest : List Gapped
  pub marks : log.marks ≡ gapped_marks 0 journal ++ rest
  pub ahead : Ahead rest (gap_after 0 journal)

-- each thread has made accesses that it demands, and the marks that stand before them in the log
pub record AllFollow (threads : Threads) (log : List ThreadLog) (journals : Journals) : Type 0 where
  pub many : length journals ≡ length log
  pub track : (t : ℕ) → t < length journals → IsOnTrack (thread_log_of log t) (journal_of journals t)
  pub demanded : (t : ℕ) → t < length journals → IsDemandedBy (threads t) (journal_of journals t)

-- a journal is the beginning of another
abbrev pub Begins : List Event → List Event → Type 0
Begins journal whole = (more : List Event) × (whole ≡ journal ++ more)
