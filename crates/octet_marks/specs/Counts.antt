-- What the pieces of a file say of its threads, counted over the pieces.
use Rattle.std.specs.Prelude.{◌≡◌, ℕ, ◌+◌, ◌<◌, ◌≤◌, ◌==◌, List, [], ◌∷◌, ◌++◌, Bool, false, IsTrue, Some, slice_get, sum_by, if◌then◌else◌}
use Rattle.std.specs.List.{list_all, list_any}
use Rattle.octet_model.specs.Log.{is_mark}
use Rattle.octet_state.specs.declared.limits.TheConstants.{MAX_ACCESSES_OF_THREAD}
use Rattle.octet_marks.specs.declared.piece.Head.{Head}
use Rattle.octet_marks.specs.declared.piece.Block.{Block}
use Rattle.octet_marks.specs.declared.piece.End.{End}
use Rattle.octet_marks.specs.declared.piece.Piece.{Piece}
use Rattle.octet_marks.specs.declared.piece.Piece.TheVariants as pieces
use Rattle.octet_marks.specs.declared.progress.Progress.{Progress}
use Rattle.octet_marks.specs.Spellings.{Leads}
use Rattle.octet_marks.specs.Standing.{accesses_in, events_in}

-- how many events of a thread a piece has
abbrev pub events_at : ℕ → Piece → ℕ
events_at thread (pieces.Block block) = if block.thread == thread then events_in block else 0
events_at thread (pieces.Head head) = 0
events_at thread (pieces.End end) = 0

-- how many accesses of a thread a piece has
abbrev pub accesses_at : ℕ → Piece → ℕ
accesses_at thread (pieces.Block block) = if block.thread == thread then accesses_in block else 0
accesses_at thread (pieces.Head head) = 0
accesses_at thread (pieces.End end) = 0

-- the piece is the end of the thread
abbrev pub is_end_of : ℕ → Piece → Bool
is_end_of thread (pieces.End end) = end.thread == thread
is_end_of thread (pieces.Head head) = false
is_end_of thread (pieces.Block block) = false

-- how many events and accesses of a thread the pieces have, and whether they have its end
abbrev pub progress_in : ℕ → List Piece → Progress
progress_in thread all = record { events = sum_by (events_at thread) all; accesses = sum_by (accesses_at thread) all; ended = list_any (is_end_of thread) all }

-- each thread of a file is as far as the pieces behind the head say
abbrev pub ThreadsAreAsCounted : Type 0
ThreadsAreAsCounted = (head : Head) (all : List Piece) (threads : List Progress) (thread : ℕ) → Leads [] (pieces.Head head ∷ all) threads → thread < head.threads → slice_get threads thread ≡ Some (progress_in thread all)

-- a block stands where its thread is: the thread is one of the file's, has not ended, and has made so many events before.
-- Its marks are marks of the thread, and the accesses are within the limit
pub record StandsInOrder (head : Head) (before : List Piece) (block : Block) : Type 0 where
  pub thread : block.thread < head.threads
  pub goes_on : list_any (is_end_of block.thread) before ≡ false
  pub first : block.first ≡ sum_by (events_at block.thread) before
  pub marks : IsTrue (list_all (λ m. is_mark head.threads block.thread m.mark) block.marks)
  pub short : sum_by (accesses_at block.thread) before + accesses_in block ≤ MAX_ACCESSES_OF_THREAD

-- each block of a file stands in order behind the pieces before it
abbrev pub BlocksStandInOrder : Type 0
BlocksStandInOrder = (head : Head) (before : List Piece) (block : Block) (rest : List Piece) (threads : List Progress) → Leads [] (pieces.Head head ∷ (before ++ pieces.Block block ∷ rest)) threads → StandsInOrder head before block

-- an end stands where its thread is
pub record EndsInOrder (head : Head) (before : List Piece) (end : End) : Type 0 where
  pub thread : end.thread < head.threads
  pub goes_on : list_any (is_end_of end.thread) before ≡ false
  pub events : end.events ≡ sum_by (events_at end.thread) before

-- each end of a file stands in order behind the pieces before it
abbrev pub EndsStandInOrder : Type 0
EndsStandInOrder = (head : Head) (before : List Piece) (end : End) (rest : List Piece) (threads : List Progress) → Leads [] (pieces.Head head ∷ (before ++ pieces.End end ∷ rest)) threads → EndsInOrder head before end
