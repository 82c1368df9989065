-- The laws of the format: a piece is read from its bytes and from no others, a file that is cut is read up to there,
-- and no bytes spell two files.
use Rattle.std.specs.Prelude.{◌≡◌, ◌≢◌, ℕ, ◌^◌, ◌<◌, ◌≤◌, List, ◌∷◌, ◌++◌, length, drop, Some, None, Ok, Err}
use Rattle.std.specs.List.{flat_map}
use Rattle.std.specs.Int.{to_be_bytes, w32}
use Rattle.octet_log.specs.Inputs.{AreBytes}
use Rattle.octet_marks.specs.declared.cause.MarksCause.TheVariants.{BadLength, BadChecksum}
use Rattle.octet_marks.specs.declared.limits.TheConstants.{MAX_BODY}
use Rattle.octet_marks.specs.declared.piece.Piece.{Piece}
use Rattle.octet_marks.specs.declared.progress.Progress.{Progress}
use Rattle.octet_marks.specs.Frames.{checksum, front_bytes, frame_at}
use Rattle.octet_marks.specs.Reading.{Read, piece_bytes, piece_at}
use Rattle.octet_marks.specs.Spellings.{IsPiece, threads_after, Leads}

-- a piece that may stand next is read from its bytes, whatever stands after them
abbrev pub PieceIsReadAgain : Type 0
PieceIsReadAgain = (threads : List Progress) (piece : Piece) (after : List Progress) (rest : List ℕ) → IsPiece piece → threads_after threads piece ≡ Ok after
    → piece_at threads (piece_bytes piece ++ rest) ≡ Ok (Some (record { piece = piece; threads = after; size = length (piece_bytes piece) }))

-- a piece that is read may stand next, and the bytes are its own and then those that are left
pub record IsReadFrom (threads : List Progress) (bytes : List ℕ) (read : Read) : Type 0 where
  pub is : IsPiece read.piece
  pub stands : threads_after threads read.piece ≡ Ok read.threads
  pub size : read.size ≡ length (piece_bytes read.piece)
  pub parts : bytes ≡ piece_bytes read.piece ++ drop read.size bytes

-- no piece is read from other bytes than its own, nor where it may not stand
abbrev pub NothingElseIsRead : Type 0
NothingElseIsRead = (threads : List Progress) (bytes : List ℕ) (read : Read) → AreBytes bytes → piece_at threads bytes ≡ Ok (Some read) → IsReadFrom threads bytes read

-- a piece that may stand next, without some of its last bytes, is cut
abbrev pub FrontOfPieceIsCut : Type 0
FrontOfPieceIsCut = (threads : List Progress) (piece : Piece) (after : List Progress) (front : List ℕ) (next : ℕ) (rest : List ℕ) → IsPiece piece → threads_after threads piece ≡ Ok after
    → piece_bytes piece ≡ front ++ next ∷ rest → piece_at threads front ≡ Ok None

-- what stands in a file that is cut: some of its pieces, and then what is cut
pub record IsReadUpTo (threads : List Progress) (all : List Piece) (bytes : List ℕ) : Type 0 where
  pub read : List Piece
  pub more : List Piece
  pub after : List Progress
  pub left : List ℕ
  pub first : all ≡ read ++ more
  pub leads : Leads threads read after
  pub parts : bytes ≡ flat_map piece_bytes read ++ left
  pub cut : piece_at after left ≡ Ok None

-- a file that is cut anywhere is read up to the piece that is cut
abbrev pub CutFileIsReadUpToThere : Type 0
CutFileIsReadUpToThere = (threads : List Progress) (all : List Piece) (end : List Progress) (front : List ℕ) (next : ℕ) (rest : List ℕ) → Leads threads all end
    → flat_map piece_bytes all ≡ front ++ next ∷ rest → IsReadUpTo threads all front

-- no bytes spell two files: neither other pieces, nor another rest that is cut
abbrev pub BytesSpellOneFile : Type 0
BytesSpellOneFile = (one other : List Piece) (threads after second : List Progress) (rest left : List ℕ) → Leads threads one after → Leads threads other second
    → piece_at after rest ≡ Ok None → piece_at second left ≡ Ok None → flat_map piece_bytes one ++ rest ≡ flat_map piece_bytes other ++ left → (one ≡ other) × (rest ≡ left)

-- a frame whose two lengths differ is refused, however few bytes stand after them
abbrev pub OtherLengthIsBad : Type 0
OtherLengthIsBad = (kind once again : ℕ) (rest : List ℕ) → once < 2 ^ 32 → again < 2 ^ 32 → once ≢ again → frame_at (kind ∷ (to_be_bytes w32 once ++ (to_be_bytes w32 again ++ rest))) ≡ Err BadLength

-- a frame with any other checksum than its own is refused
abbrev pub OtherChecksumIsBad : Type 0
OtherChecksumIsBad = (kind : ℕ) (body sum rest : List ℕ) → length body ≤ MAX_BODY → length sum ≡ 8 → sum ≢ checksum (front_bytes kind body) → frame_at (front_bytes kind body ++ (sum ++ rest)) ≡ Err BadChecksum

-- bytes that stand behind those by which the next piece is read or refused change nothing
abbrev pub MoreBytesChangeNothing : Type 0
MoreBytesChangeNothing = (threads : List Progress) (bytes more : List ℕ) → piece_at threads bytes ≢ Ok None → piece_at threads (bytes ++ more) ≡ piece_at threads bytes

-- a piece that is read has one or more of the bytes
abbrev pub PieceHasBytes : Type 0
PieceHasBytes = (threads : List Progress) (bytes : List ℕ) (read : Read) → piece_at threads bytes ≡ Ok (Some read) → (0 < read.size) × (read.size ≤ length bytes)
