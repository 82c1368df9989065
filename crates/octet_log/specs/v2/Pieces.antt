-- The bytes of version 2 of the format, and which bytes spell a log in it.
use Rattle.std.specs.Prelude.{◌≡◌, ℕ, suc, ◌<◌, ◌≤◌, ◌==◌, List, [], ◌∷◌, ◌++◌, codes, length, sum_by, if◌then◌else◌}
use Rattle.std.specs.List.{flat_map}
use Rattle.octet_model.specs.declared.event.Mark.{Mark}
use Rattle.octet_model.specs.declared.event.Mark.TheVariants.{Join, Draw, Fence}
use Rattle.octet_model.specs.declared.log.Gapped.{Gapped}
use Rattle.octet_model.specs.declared.log.ThreadLog.{ThreadLog}
use Rattle.octet_log.specs.declared.limits.TheConstants.{MAX_MARKS}
use Rattle.octet_log.specs.v2.Short.{short_bytes}

-- the word OCTL, the version 2, the number of threads, and the digest of the script's bytes
abbrev pub head_bytes : ℕ → List ℕ → List ℕ
head_bytes threads digest = codes "OCTL" ++ 2 ∷ threads ∷ digest

-- the bytes of a mark: its kind, its gap, the thread if it is a Join, and its number
abbrev pub short_mark_of : ℕ → Mark → List ℕ
short_mark_of gap (Join from upto) = 1 ∷ short_bytes gap ++ from ∷ short_bytes upto
short_mark_of gap (Draw number) = 2 ∷ short_bytes gap ++ short_bytes number
short_mark_of gap (Fence number) = 3 ∷ short_bytes gap ++ short_bytes number

-- the bytes of a gapped mark
abbrev pub short_mark_bytes : Gapped → List ℕ
short_mark_bytes gapped = short_mark_of gapped.gap gapped.mark

-- the count of marks, and the marks
abbrev pub marks_bytes : List Gapped → List ℕ
marks_bytes marks = short_bytes (length marks) ++ flat_map short_mark_bytes marks

-- some marks of a thread, in a row
pub record Piece : Type 0 where
  pub thread : ℕ
  pub marks : List Gapped

-- the bytes of a piece: its thread and its marks
abbrev pub piece_bytes : Piece → List ℕ
piece_bytes piece = piece.thread ∷ marks_bytes piece.marks

-- the byte that no thread has as its number, and the accesses of each thread
abbrev pub tail_bytes : List ThreadLog → List ℕ
tail_bytes logs = 255 ∷ flat_map (λ log. short_bytes log.accesses) logs

-- a piece is of one of the threads, and has a mark
pub record IsPiece (threads : ℕ) (piece : Piece) : Type 0 where
  pub thread : piece.thread < threads
  pub some_mark : 1 ≤ length piece.marks

-- each of these is a piece of one of the threads
abbrev pub ArePieces : ℕ → List Piece → Type 0
ArePieces threads [] = Unit {0}
ArePieces threads (piece ∷ pieces) = IsPiece threads piece × ArePieces threads pieces

-- the marks of a thread: those of its pieces, in the order of the pieces
abbrev pub marks_of : ℕ → List Piece → List Gapped
marks_of thread [] = []
marks_of thread (piece ∷ pieces) = (if thread == piece.thread then piece.marks else []) ++ marks_of thread pieces

-- the pieces have the marks of the threads from a number on
abbrev pub HaveMarks : ℕ → List Piece → List ThreadLog → Type 0
HaveMarks thread pieces [] = Unit {0}
HaveMarks thread pieces (log ∷ logs) = (marks_of thread pieces ≡ log.marks) × HaveMarks (suc thread) pieces logs

-- the number of marks of a log, of all its threads
abbrev pub marks_in : List ThreadLog → ℕ
marks_in logs = sum_by (λ log. length log.marks) logs

-- the bytes of a log whose marks stand in these pieces
abbrev pub pieced_bytes : List ℕ → List Piece → List ThreadLog → List ℕ
pieced_bytes digest pieces logs = head_bytes (length logs) digest ++ (flat_map piece_bytes pieces ++ tail_bytes logs)

-- the bytes spell the log in version 2 with this digest: the head, pieces with the marks of each thread, the tail
pub record SpellsPieces (bytes digest : List ℕ) (logs : List ThreadLog) : Type 0 where
  pub pieces : List Piece
  pub whole : length digest ≡ 32
  pub are : ArePieces (length logs) pieces
  pub have : HaveMarks 0 pieces logs
  pub few : marks_in logs ≤ MAX_MARKS
  pub parts : bytes ≡ pieced_bytes digest pieces logs

-- one piece for each thread that has marks, in order of the threads from a number on
abbrev pub whole_pieces : ℕ → List ThreadLog → List Piece
whole_pieces thread [] = []
whole_pieces thread (log ∷ logs) = (if length log.marks == 0 then [] else record { thread = thread; marks = log.marks } ∷ []) ++ whole_pieces (suc thread) logs
