-- What a thread has handed on, as the blocks of a file.
use Rattle.std.specs.Prelude.{◌≡◌, ◌≢◌, ℕ, ◌+◌, ◌^◌, ◌<◌, ◌≤◌, List, [], ◌∷◌, ◌++◌, map, length, Option, Some, None, true, false, sum_by}
use Rattle.std.specs.List.{AllByRecursion, flat_map, list_any}
use Rattle.rtrb.specs.Ring.{received, known_items, SameConsumer}
use Rattle.octet_marks.specs.declared.limits.TheConstants.{MAX_BLOCK_MARKS}
use Rattle.octet_marks.specs.declared.piece.Block.{Block}
use Rattle.octet_marks.specs.declared.piece.Piece.{Piece}
use Rattle.octet_marks.specs.declared.piece.Piece.TheVariants as pieces
use Rattle.octet_marks.specs.Counts.{events_at, is_end_of}
use Rattle.octet_marks.specs.Reading.{piece_bytes}
use Rattle.octet_marks.specs.Standing.{events_in}
use Rattle.octet_stream.specs.declared.item.Item.{Item}
use Rattle.octet_stream.specs.declared.item.Item.TheVariants.{Marked, BlockEnd, ThreadEnd, BreaksOff}
use Rattle.octet_blocks.specs.declared.writer.BlockWriter.{BlockWriter}
use Rattle.octet_blocks.specs.declared.writer.Gathered.{Gathered}
use Rattle.octet_blocks.specs.declared.writer.Gathered.TheVariants.{Whole, Waits, Ended}
use Rattle.octet_blocks.specs.Items.{items_in}

-- the numbers of a block fit into their fields, also with its events, and it has no more marks than a block may have
pub record Fits (block : Block) : Type 0 where
  pub gap : block.gap < 2 ^ 32
  pub digest : block.digest < 2 ^ 64
  pub events : block.first + events_in block < 2 ^ 64
  pub gaps : AllByRecursion (λ m. m.gap < 2 ^ 32) block.marks
  pub few : length block.marks ≤ MAX_BLOCK_MARKS

-- a piece of a thread stands behind these: its block begins, or its end stands, at as many events as they have of the thread.
-- The numbers of a block fit into their fields
abbrev pub StandsBehind : ℕ → List Piece → Piece → Type 0
StandsBehind thread before (pieces.Head head) = ⊥
StandsBehind thread before (pieces.Block block) = (block.thread ≡ thread) × (block.first ≡ sum_by (events_at thread) before) × Fits block
StandsBehind thread before (pieces.End end) = (end.thread ≡ thread) × (end.events ≡ sum_by (events_at thread) before)

-- these pieces are blocks of the thread, and its end, each in its place behind those before it. None comes after the end
abbrev pub AreOfThread : ℕ → List Piece → List Piece → Type 0
AreOfThread thread before [] = Unit {0}
AreOfThread thread before (piece ∷ all) = (list_any (is_end_of thread) before ≡ false) × StandsBehind thread before piece × AreOfThread thread (before ++ piece ∷ []) all

-- an item, if there is one
abbrev pub held_items : Option Item → List Item
held_items None = []
held_items (Some item) = item ∷ []

-- of what has come of the thread these pieces are whole: their items have come, and then marks of a block that is not whole.
-- Of their bytes these were passed on, and the others are there
pub record HasWritten (writer : BlockWriter) (all : List Piece) (given : List ℕ) : Type 0 where
  pub items : received writer.receiver.end ≡ items_in writer.receiver.thread all ++ (map (λ mark. Marked mark) writer.marks.items ++ held_items writer.held)
  pub of_thread : AreOfThread writer.receiver.thread [] all
  pub bytes : flat_map piece_bytes all ≡ given ++ writer.bytes.items
  pub events : writer.events ≡ sum_by (events_at writer.receiver.thread) all
  pub ended : writer.has_ended ≡ list_any (is_end_of writer.receiver.thread) all

-- it is the same thread's, by the same ring
pub record SameWriter (before after : BlockWriter) : Type 0 where
  pub thread : after.receiver.thread ≡ before.receiver.thread
  pub ring : SameConsumer before.receiver.end after.receiver.end

-- more pieces may have become whole, behind those that were. Nothing was passed on
pub record Gathers (before after : BlockWriter) : Type 0 where
  pub same : SameWriter before after
  pub more : (all : List Piece) (given : List ℕ) → HasWritten before all given → (next : List Piece) × HasWritten after (all ++ next) given

-- the bytes that were there are passed on
abbrev pub PassesOn : BlockWriter → BlockWriter → Type 0
PassesOn before after = (all : List Piece) (given : List ℕ) → HasWritten before all given → HasWritten after all (given ++ before.bytes.items)

-- so many items were taken, or were known to have come
abbrev pub known_of : BlockWriter → ℕ
known_of writer = length (received writer.receiver.end) + length (known_items writer.receiver.end)

-- each item that was known to have come was taken
abbrev pub TakesKnown : BlockWriter → BlockWriter → Type 0
TakesKnown before after = known_of before ≤ length (received after.receiver.end)

-- what was gathered: the bytes of something whole are there; or none are, and all was taken that had come, or the thread has ended
abbrev pub IsGathered : BlockWriter → Gathered → BlockWriter → Type 0
IsGathered before Whole after = after.bytes.items ≢ []
IsGathered before Waits after = (after.bytes.items ≡ []) × (after.has_ended ≡ false) × (after.held ≡ None) × TakesKnown before after
IsGathered before Ended after = (after.bytes.items ≡ []) × (after.has_ended ≡ true)

-- an item fits no block: there are too many marks, or too many events, or the thread ends within a block, or its recording breaks off
abbrev pub FitsNoBlock : BlockWriter → Option Item → Type 0
FitsNoBlock writer None = ⊥
FitsNoBlock writer (Some (Marked mark)) = MAX_BLOCK_MARKS ≤ length writer.marks.items
FitsNoBlock writer (Some (BlockEnd gap digest)) = 2 ^ 64 ≤ writer.events + (sum_by (λ m. m.gap) writer.marks.items + gap + length writer.marks.items)
FitsNoBlock writer (Some ThreadEnd) = writer.marks.items ≢ []
FitsNoBlock writer (Some BreaksOff) = Unit {0}

-- the block stays as it was, and what was passed on
pub record KeepsBlock (before after : BlockWriter) : Type 0 where
  pub marks : after.marks.items ≡ before.marks.items
  pub events : after.events ≡ before.events
  pub ended : after.has_ended ≡ before.has_ended
  pub bytes : after.bytes.items ≡ before.bytes.items
