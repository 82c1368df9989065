-- The refusals of bytes of version 2, each of a whole input: what stands before the refused field is whole and good.
use Rattle.std.specs.Prelude.{◌≡◌, ◌≢◌, ◌⊎◌, ℕ, suc, ◌+◌, ◌-◌, ◌<◌, ◌≤◌, ◌^◌, ◌&&◌, List, [], ◌∷◌, ◌++◌, length, sum_by, Err, IsTrue, nat_le}
use Rattle.std.specs.List.{list_all, flat_map}
use Rattle.octet_model.specs.declared.log.Gapped.{Gapped}
use Rattle.octet_model.specs.declared.limits.TheConstants.{MAX_ACCESSES, MAX_THREADS}
use Rattle.octet_model.specs.Log.{is_mark}
use Rattle.octet_log.specs.declared.cause.LogCause.TheVariants.{CutShort, BadMark, TooManyAccesses, BadNumber, BadPiece, GapsOver, TooManyMarks}
use Rattle.octet_log.specs.declared.limits.TheConstants.{MAX_MARKS}
use Rattle.octet_log.specs.v2.Short.{number_of_groups, EndsAtLast, IsShortest, short_bytes, short_at}
use Rattle.octet_log.specs.v2.Pieces.{head_bytes, short_mark_bytes, Piece, piece_bytes, ArePieces, marks_of}
use Rattle.octet_log.specs.Loading.{loaded}

-- an input that ends within the digest is cut where it ends
abbrev pub DigestIsCut : Type 0
DigestIsCut = (threads : ℕ) (field : List ℕ) → 1 ≤ threads → threads ≤ MAX_THREADS → length field < 32 → loaded (head_bytes threads field) ≡ Err (CutShort (length (head_bytes threads field)))

-- the marks are valid for the thread, each with a gap of at most the limit
abbrev pub are_good_marks : ℕ → ℕ → List Gapped → Type 0
are_good_marks threads thread marks = IsTrue (list_all (λ m. is_mark threads thread m.mark && nat_le m.gap MAX_ACCESSES) marks)

-- all marks of the pieces are good
abbrev pub HaveGoodMarks : ℕ → List Piece → Type 0
HaveGoodMarks threads [] = Unit {0}
HaveGoodMarks threads (piece ∷ pieces) = are_good_marks threads piece.thread piece.marks × HaveGoodMarks threads pieces

-- the number of marks of the pieces
abbrev pub marks_so_far : List Piece → ℕ
marks_so_far pieces = sum_by (λ piece. length piece.marks) pieces

-- the head and the pieces are all good
pub record IsFront (threads : ℕ) (digest : List ℕ) (pieces : List Piece) : Type 0 where
  pub some_thread : 1 ≤ threads
  pub few_threads : threads ≤ MAX_THREADS
  pub whole : length digest ≡ 32
  pub are : ArePieces threads pieces
  pub good : HaveGoodMarks threads pieces
  pub few : marks_so_far pieces ≤ MAX_MARKS

-- the bytes of the head and the pieces
abbrev pub front_bytes : ℕ → List ℕ → List Piece → List ℕ
front_bytes threads digest pieces = head_bytes threads digest ++ flat_map piece_bytes pieces

-- a byte that is no thread and not ff is a bad piece, where a piece or the tail begins
abbrev pub NoThreadIsBadPiece : Type 0
NoThreadIsBadPiece = (threads : ℕ) (digest : List ℕ) (pieces : List Piece) (thread : ℕ) (rest : List ℕ) → IsFront threads digest pieces → threads ≤ thread → thread ≢ 255
    → loaded (front_bytes threads digest pieces ++ thread ∷ rest) ≡ Err (BadPiece (length (front_bytes threads digest pieces)))

-- a piece without a mark is bad, at its thread
abbrev pub NoMarkIsBadPiece : Type 0
NoMarkIsBadPiece = (threads : ℕ) (digest : List ℕ) (pieces : List Piece) (thread : ℕ) (rest : List ℕ) → IsFront threads digest pieces → thread < threads
    → loaded (front_bytes threads digest pieces ++ thread ∷ (short_bytes 0 ++ rest)) ≡ Err (BadPiece (length (front_bytes threads digest pieces)))

-- a piece is refused that passes the limit of marks, with the marks of the pieces before it
abbrev pub MarksAreTooMany : Type 0
MarksAreTooMany = (threads : ℕ) (digest : List ℕ) (pieces : List Piece) (thread count : ℕ) (rest : List ℕ) → IsFront threads digest pieces → thread < threads → 1 ≤ count → count < 2 ^ 64 → MAX_MARKS < marks_so_far pieces + count
    → loaded (front_bytes threads digest pieces ++ thread ∷ (short_bytes count ++ rest)) ≡ Err TooManyMarks

-- a piece is read in part: its thread, the number of its marks, and the first marks.
-- All are good, and more marks are to come
pub record IsInPiece (threads : ℕ) (digest : List ℕ) (pieces : List Piece) (thread count : ℕ) (marks : List Gapped) : Type 0 where
  pub front : IsFront threads digest pieces
  pub thread_is : thread < threads
  pub few : marks_so_far pieces + count ≤ MAX_MARKS
  pub more : length marks < count
  pub good : are_good_marks threads thread marks

-- the bytes up to and with the first marks of the next piece
abbrev pub in_piece_bytes : ℕ → List ℕ → List Piece → ℕ → ℕ → List Gapped → List ℕ
in_piece_bytes threads digest pieces thread count marks = front_bytes threads digest pieces ++ thread ∷ (short_bytes count ++ flat_map short_mark_bytes marks)

-- the bytes begin no mark that may stand next. They have an unknown kind, a gap above the limit,
-- a Join of the thread itself or of none, or a Draw or a Fence with the number 0
pub data BeginsNoMark (threads thread : ℕ) : List ℕ → Type 0 where
  no_kind : (kind : ℕ) (rest : List ℕ) → (kind ≡ 0) ⊎ (3 < kind) → BeginsNoMark threads thread (kind ∷ rest)
  long_gap : (kind gap : ℕ) (rest : List ℕ) → 1 ≤ kind → kind ≤ 3 → MAX_ACCESSES < gap → gap < 2 ^ 64 → BeginsNoMark threads thread (kind ∷ (short_bytes gap ++ rest))
  no_other : (gap from : ℕ) (rest : List ℕ) → gap ≤ MAX_ACCESSES → (threads ≤ from) ⊎ (from ≡ thread) → BeginsNoMark threads thread (1 ∷ (short_bytes gap ++ from ∷ rest))
  no_number : (kind gap : ℕ) (rest : List ℕ) → (kind ≡ 2) ⊎ (kind ≡ 3) → gap ≤ MAX_ACCESSES → BeginsNoMark threads thread (kind ∷ (short_bytes gap ++ (short_bytes 0 ++ rest)))

-- bytes that begin no mark that may stand next are a bad mark, at their first byte
abbrev pub NoMarkIsBad : Type 0
NoMarkIsBad = (threads : ℕ) (digest : List ℕ) (pieces : List Piece) (thread count : ℕ) (marks : List Gapped) (rest : List ℕ) → IsInPiece threads digest pieces thread count marks → BeginsNoMark threads thread rest
    → loaded (in_piece_bytes threads digest pieces thread count marks ++ rest) ≡ Err (BadMark (length (in_piece_bytes threads digest pieces thread count marks)))

-- none of the bytes ends a number
abbrev pub GoesOn : List ℕ → Type 0
GoesOn [] = Unit {0}
GoesOn (byte ∷ more) = (128 ≤ byte) × GoesOn more

-- the bytes spell no short number: they end within ten bytes but are not shortest or reach 2 ^ 64,
-- or they are ten bytes that do not end
abbrev pub SpellsNoShort : List ℕ → Type 0
SpellsNoShort field = (EndsAtLast field × (length field ≤ 10) × ((¬ IsShortest field) ⊎ (2 ^ 64 ≤ number_of_groups field))) ⊎ ((length field ≡ 10) × GoesOn field)

-- bytes that spell no short number are a bad number, at their first byte
abbrev pub NoShortIsBad : Type 0
NoShortIsBad = (total : ℕ) (field rest : List ℕ) → SpellsNoShort field → short_at total (field ++ rest) ≡ Err (BadNumber (total - length (field ++ rest)))

-- fewer than ten bytes that do not end are cut where the input ends
abbrev pub ShortIsCut : Type 0
ShortIsCut = (total : ℕ) (field : List ℕ) → length field < 10 → GoesOn field → short_at total field ≡ Err (CutShort total)

-- the accesses of each thread, from a number on, are at least the sum of its gaps
abbrev pub GapsFit : ℕ → List Piece → List ℕ → Type 0
GapsFit thread pieces [] = Unit {0}
GapsFit thread pieces (accesses ∷ more) = (sum_by (λ m. m.gap) (marks_of thread pieces) ≤ accesses) × GapsFit (suc thread) pieces more

-- the sum of the accesses
abbrev pub accesses_so_far : List ℕ → ℕ
accesses_so_far accesses = sum_by (λ n. n) accesses

-- the tail is read in part: the accesses of the first threads. All are good, and more are to come
pub record IsInTail (threads : ℕ) (digest : List ℕ) (pieces : List Piece) (accesses : List ℕ) : Type 0 where
  pub front : IsFront threads digest pieces
  pub more : length accesses < threads
  pub gaps : GapsFit 0 pieces accesses
  pub few : accesses_so_far accesses ≤ MAX_ACCESSES

-- the bytes up to and with the accesses of the first threads
abbrev pub in_tail_bytes : ℕ → List ℕ → List Piece → List ℕ → List ℕ
in_tail_bytes threads digest pieces accesses = front_bytes threads digest pieces ++ 255 ∷ flat_map short_bytes accesses

-- accesses that pass the limit, with the accesses before them, are too many
abbrev pub TailHasTooMany : Type 0
TailHasTooMany = (threads : ℕ) (digest : List ℕ) (pieces : List Piece) (accesses : List ℕ) (next : ℕ) (rest : List ℕ) → IsInTail threads digest pieces accesses → next < 2 ^ 64 → MAX_ACCESSES < accesses_so_far accesses + next
    → loaded (in_tail_bytes threads digest pieces accesses ++ (short_bytes next ++ rest)) ≡ Err TooManyAccesses

-- fewer accesses than the gaps of their thread are refused, with the number of the thread
abbrev pub GapsPassAccesses : Type 0
GapsPassAccesses = (threads : ℕ) (digest : List ℕ) (pieces : List Piece) (accesses : List ℕ) (next : ℕ) (rest : List ℕ) → IsInTail threads digest pieces accesses → accesses_so_far accesses + next ≤ MAX_ACCESSES
    → next < sum_by (λ m. m.gap) (marks_of (length accesses) pieces) → loaded (in_tail_bytes threads digest pieces accesses ++ (short_bytes next ++ rest)) ≡ Err (GapsOver (length accesses))
