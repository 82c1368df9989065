-- How far the marks of a thread's log were gone over, in terms of its journal.
use Rattle.std.specs.Prelude.{◌≡◌, ℕ, suc, ◌^◌, ◌<◌, ◌≤◌, List, length, take, Option, Some, None, slice_get}
use Rattle.octet_model.specs.declared.event.Event.{Event}
use Rattle.octet_model.specs.declared.event.Event.TheVariants.{Marked}
use Rattle.octet_model.specs.declared.event.Mark.{Mark}
use Rattle.octet_model.specs.declared.log.ThreadLog.{ThreadLog}
use Rattle.octet_model.specs.Journals.{mark_count, gap_after, log_of_journal}
use Rattle.octet_slice.specs.declared.cursor.Cursor.{Cursor}
use Rattle.octet_slice.specs.declared.cursor.Placed.{Placed}

-- the marks passed are those of the journal's first events, the last of which is a mark
pub record IsCursorOf (journal : List Event) (cursor : Cursor) : Type 0 where
  pub marks : cursor.marks ≡ mark_count (take cursor.events journal)
  pub at_mark : gap_after 0 (take cursor.events journal) ≡ 0
  pub within : cursor.events ≤ length journal

-- no mark is at any of these places
abbrev pub NoMarks : List Event → ℕ → ℕ → Type 0
NoMarks journal from upto = (event : ℕ) (mark : Mark) → from ≤ event → event < upto → slice_get journal event ≡ Some (Marked mark) → ⊥

-- the mark at its place is the first from a place on
pub record IsFirstMark (journal : List Event) (from : ℕ) (next : Placed) : Type 0 where
  pub later : from ≤ next.event
  pub is_mark : slice_get journal next.event ≡ Some (Marked next.mark)
  pub none_between : NoMarks journal from next.event

-- the first mark from a place on, if there is one
abbrev pub IsNextMark : List Event → ℕ → Option Placed → Type 0
IsNextMark journal from None = NoMarks journal from (length journal)
IsNextMark journal from (Some next) = IsFirstMark journal from next

-- the log is that of a journal, which is no longer than journals are
pub record IsLogOfOne (journal : List Event) (log : ThreadLog) : Type 0 where
  pub is_log : log ≡ log_of_journal journal
  pub short : length journal < 2 ^ 32

-- the cursor past the mark
abbrev pub past_mark : Cursor → Placed → Cursor
past_mark cursor next = record { marks = suc cursor.marks; events = suc next.event }
