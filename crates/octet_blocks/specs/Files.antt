-- The pieces of all threads in one file.
use Rattle.std.specs.Prelude.{◌≡◌, ℕ, ◌<◌, ◌≤◌, ◌==◌, Bool, false, IsTrue, List, [], ◌∷◌, ◌++◌, filter, sum_by}
use Rattle.std.specs.List.{AllByRecursion, flat_map, list_all}
use Rattle.rtrb.specs.Ring.{received}
use Rattle.octet_model.specs.declared.event.Event.{Event}
use Rattle.octet_model.specs.Journals.{access_count, gapped_marks}
use Rattle.octet_model.specs.Log.{is_mark}
use Rattle.octet_model.specs.Machine.{Journals, journal_of}
use Rattle.octet_state.specs.declared.limits.TheConstants.{MAX_ACCESSES_OF_THREAD}
use Rattle.octet_marks.specs.declared.piece.Head.{Head}
use Rattle.octet_marks.specs.declared.piece.Piece.{Piece}
use Rattle.octet_marks.specs.declared.piece.Piece.TheVariants as pieces
use Rattle.octet_marks.specs.Counts.{accesses_at}
use Rattle.octet_marks.specs.Reading.{piece_bytes}
use Rattle.octet_marks.specs.Spellings.{IsHead}
use Rattle.octet_stream.specs.declared.item.Item.{Item}
use Rattle.octet_stream.specs.Items.{AreOf}
use Rattle.octet_blocks.specs.declared.writer.BlockWriter.{BlockWriter}
use Rattle.octet_blocks.specs.Writing.{AreOfThread, HasWritten}

-- the piece is a block of this thread, or its end
abbrev pub is_of : ℕ → Piece → Bool
is_of thread (pieces.Head head) = false
is_of thread (pieces.Block block) = block.thread == thread
is_of thread (pieces.End end) = end.thread == thread

-- the pieces of a thread, in their order
abbrev pub pieces_of : ℕ → List Piece → List Piece
pieces_of thread all = filter (is_of thread) all

-- a piece is a block or an end of one of so many threads
abbrev pub IsOfOne : ℕ → Piece → Type 0
IsOfOne threads (pieces.Head head) = ⊥
IsOfOne threads (pieces.Block block) = block.thread < threads
IsOfOne threads (pieces.End end) = end.thread < threads

-- the marks of a piece are marks of its thread, among so many
abbrev pub HasItsMarks : ℕ → Piece → Type 0
HasItsMarks threads (pieces.Head head) = Unit {0}
HasItsMarks threads (pieces.Block block) = IsTrue (list_all (λ m. is_mark threads block.thread m.mark) block.marks)
HasItsMarks threads (pieces.End end) = Unit {0}

-- the pieces behind a head are those of its threads, in any order that keeps each thread's own. Their marks are marks of their
-- threads, and no thread has more accesses than it may have
pub record AreBehind (head : Head) (all : List Piece) : Type 0 where
  pub head_is : IsHead head
  pub of_one : AllByRecursion (IsOfOne head.threads) all
  pub in_order : (thread : ℕ) → thread < head.threads → AreOfThread thread [] (pieces_of thread all)
  pub marks : AllByRecursion (HasItsMarks head.threads) all
  pub short : (thread : ℕ) → thread < head.threads → sum_by (accesses_at thread) all ≤ MAX_ACCESSES_OF_THREAD

-- the bytes of a head, and of the pieces behind it
abbrev pub file_bytes : Head → List Piece → List ℕ
file_bytes head all = flat_map piece_bytes (pieces.Head head ∷ all)

-- what the thread of this journal has handed on was gathered as its pieces among these. More may have been handed on
pub record IsWrittenIn (all : List Piece) (thread : ℕ) (journal : List Event) : Type 0 where
  pub writer : BlockWriter
  pub given : List ℕ
  pub base : ℕ
  pub ended : Bool
  pub later : List Item
  pub own : writer.receiver.thread ≡ thread
  pub handed : AreOf journal base ended (received writer.receiver.end ++ later)
  pub written : HasWritten writer (pieces_of thread all) given

-- the marks of a journal are marks of its thread, among so many, and it has no more accesses than it may have
pub record KeepsLimits (threads thread : ℕ) (journal : List Event) : Type 0 where
  pub marks : IsTrue (list_all (λ m. is_mark threads thread m.mark) (gapped_marks 0 journal))
  pub short : access_count journal ≤ MAX_ACCESSES_OF_THREAD

-- the pieces behind a head are what the writers of all its threads have made of these journals, in any order
pub record AreWrittenOf (head : Head) (all : List Piece) (journals : Journals) : Type 0 where
  pub head_is : IsHead head
  pub of_one : AllByRecursion (IsOfOne head.threads) all
  pub written : (thread : ℕ) → thread < head.threads → IsWrittenIn all thread (journal_of journals thread)
  pub limits : (thread : ℕ) → thread < head.threads → KeepsLimits head.threads thread (journal_of journals thread)
