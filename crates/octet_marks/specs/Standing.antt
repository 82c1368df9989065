-- Which pieces may stand next in a marks file, by how far its threads are.
use Rattle.std.specs.Prelude.{ℕ, ◌+◌, ◌^◌, ◌==◌, List, length, Option, Some, None, true, false, Result, Ok, Err, nat_lt, nat_le, slice_get, sum_by, not}
use Rattle.std.specs.List.{list_all}
use Rattle.octet_model.specs.Log.{is_mark}
use Rattle.octet_state.specs.declared.limits.TheConstants.{MAX_ACCESSES_OF_THREAD}
use Rattle.octet_marks.specs.declared.cause.MarksCause.{MarksCause}
use Rattle.octet_marks.specs.declared.cause.MarksCause.TheVariants.{BadThread, AfterEnd, OutOfOrder, BadMark, TooLong}
use Rattle.octet_marks.specs.declared.piece.Block.{Block}
use Rattle.octet_marks.specs.declared.piece.End.{End}
use Rattle.octet_marks.specs.declared.progress.Progress.{Progress}
use Rattle.octet_marks.specs.Judging.{◌>>=◌, wanted}

-- the thread is at this number of events, and has not ended
unfoldable pub standing_at : Option Progress → ℕ → Result Progress MarksCause
standing_at None events = Err BadThread
standing_at (Some progress) events = do
  goes_on ← wanted (not progress.ended) AfterEnd
  in_order ← wanted (progress.events == events) OutOfOrder
  Ok progress

-- how many accesses a block has
abbrev pub accesses_in : Block → ℕ
accesses_in block = sum_by (λ m. m.gap) block.marks + block.gap

-- how many events a block has: its accesses and its marks
abbrev pub events_in : Block → ℕ
events_in block = accesses_in block + length block.marks

-- how far a thread is after a block, within the limits
unfoldable pub advanced : Progress → Block → Result Progress MarksCause
advanced before block = do
  short ← wanted (nat_le (before.accesses + accesses_in block) MAX_ACCESSES_OF_THREAD) TooLong
  counted ← wanted (nat_lt (before.events + events_in block) (2 ^ 64)) TooLong
  Ok (record { events = before.events + events_in block; accesses = before.accesses + accesses_in block; ended = false })

-- how far the thread of a block is after it
unfoldable pub block_after : List Progress → Block → Result Progress MarksCause
block_after threads block = do
  before ← standing_at (slice_get threads block.thread) block.first
  marks ← wanted (list_all (λ m. is_mark (length threads) block.thread m.mark) block.marks) BadMark
  advanced before block

-- how far the thread of an end is after it
unfoldable pub end_after : List Progress → End → Result Progress MarksCause
end_after threads end = do
  before ← standing_at (slice_get threads end.thread) end.events
  Ok (record { events = before.events; accesses = before.accesses; ended = true })
