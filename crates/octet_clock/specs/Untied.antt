-- What the marks of a log let its threads do, whatever the script.
use Rattle.std.specs.Prelude.{ℕ, Bool, true, false, nat_lt, List, [], length, slice_get}
use Rattle.octet_model.specs.declared.event.Event.{Event}
use Rattle.octet_model.specs.declared.log.ThreadLog.{ThreadLog}
use Rattle.octet_model.specs.Machine.{Next, Wants, Finished, NothingFits, MakeRead, Behavior, PlainState, starting_state, IsOrder}
use Rattle.octet_model.specs.Journals.{access_count, mark_count, gap_after, due_mark, mark_first}
use Rattle.octet_model.specs.Orders.{thread_log_of}

-- an access, where the log has one left. Which access is made decides nothing here:
-- a read of object 0 stands for each
abbrev pub any_access : Bool → Bool → Next
any_access true mark_left = Wants (MakeRead 0)
any_access false true = NothingFits
any_access false false = Finished

-- what a thread does next by its log alone: its next mark where that is due, else an access
abbrev pub next_by_log_alone : ThreadLog → List Event → Next
next_by_log_alone log journal =
    mark_first (due_mark (slice_get log.marks (mark_count journal)) (gap_after 0 journal))
    (any_access (nat_lt (access_count journal) log.accesses) (nat_lt (mark_count journal) (length log.marks)))

-- what the threads do next by the log alone
abbrev pub by_log_alone : List ThreadLog → Behavior
by_log_alone log thread journal = next_by_log_alone (thread_log_of log thread) journal

-- the state before the first step, without objects
abbrev pub opening_alone : List ThreadLog → PlainState
opening_alone log = starting_state [] log

-- an untied log: some order of steps by the log alone makes all its accesses and marks
abbrev pub IsUntied : List ThreadLog → Type 0
IsUntied log = (order : List ℕ) × IsOrder (by_log_alone log) (opening_alone log) order
