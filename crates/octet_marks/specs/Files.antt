-- A file as its reader sees it: what was read, what is left, and how it ends.
use Rattle.std.specs.Prelude.{◌≡◌, ℕ, ◌+◌, ◌-◌, ◌^◌, ◌==◌, ◌&&◌, List, [], ◌∷◌, ◌++◌, length, min, drop, Option, Some, None, Result, Ok, Err, not, if◌then◌else◌}
use Rattle.std.specs.List.{flat_map, list_all}
use Rattle.octet_log.specs.Inputs.{AreBytes}
use Rattle.octet_marks.specs.declared.cause.MarksFault.{MarksFault}
use Rattle.octet_marks.specs.declared.cause.MarksFault.TheVariants as faults
use Rattle.octet_marks.specs.declared.piece.Piece.{Piece}
use Rattle.octet_marks.specs.declared.progress.Progress.{Progress}
use Rattle.octet_marks.specs.declared.reader.Ending.{Ending}
use Rattle.octet_marks.specs.declared.reader.Ending.TheVariants.{Whole, Cut}
use Rattle.octet_marks.specs.declared.reader.Reader.{Reader}
use Rattle.octet_marks.specs.Reading.{Read, piece_bytes, piece_at}
use Rattle.octet_marks.specs.Spellings.{Leads}

-- how far each thread is by what was read of a file, where the next piece begins, and what was fed from there on
pub record Unread : Type 0 where
  pub threads : List Progress
  pub place : ℕ
  pub bytes : List ℕ

-- what a reader has not read yet
abbrev pub unread_of : Reader → Unread
unread_of reader = record { threads = reader.threads.items; place = reader.place; bytes = drop reader.taken reader.left.items }

-- a file of which nothing was fed
abbrev pub unfed : Unread
unfed = record { threads = []; place = 0; bytes = [] }

-- more bytes were fed
abbrev pub fed_with : List ℕ → Unread → Unread
fed_with bytes unread = record { threads = unread.threads; place = unread.place; bytes = unread.bytes ++ bytes }

-- the file after a piece. Places are told up to 2 ^ 64 - 1
abbrev pub after_read : Unread → Read → Unread
after_read unread read = record { threads = read.threads; place = min (unread.place + read.size) (2 ^ 64 - 1); bytes = drop read.size unread.bytes }

-- the piece is the next one, and the file stands after it
pub record IsNext (before : Unread) (piece : Piece) (after : Unread) : Type 0 where
  pub read : Read
  pub is : piece_at before.threads before.bytes ≡ Ok (Some read)
  pub piece_is : read.piece ≡ piece
  pub after_is : after ≡ after_read before read

-- the fault is what the next piece is refused for, at its place; or memory ran out
abbrev pub IsRefusedAt : Unread → MarksFault → Type 0
IsRefusedAt before faults.OutOfMemory = Unit {0}
IsRefusedAt before (faults.Refused cause at) = (piece_at before.threads before.bytes ≡ Err cause) × (at ≡ before.place)

-- what a reader answers for the next piece: that piece, or that it is cut, or why it is refused.
-- It stands before the piece still, if it was not read
abbrev pub Answers : Unread → Unread → Result (Option Piece) MarksFault → Type 0
Answers before after (Ok (Some piece)) = IsNext before piece after
Answers before after (Ok None) = (piece_at before.threads before.bytes ≡ Ok None) × (after ≡ before)
Answers before after (Err fault) = IsRefusedAt before fault × (after ≡ before)

-- how the file ends, if no more bytes come: it is whole if all its threads have ended, and nothing stands behind
-- the last piece that was read
abbrev pub ending_of : Unread → Ending
ending_of unread =
    if not (length unread.threads == 0) && list_all (λ progress. progress.ended) unread.threads && (length unread.bytes == 0)
    then Whole
    else Cut unread.place (length unread.bytes)

-- what was read of the bytes that were fed: these pieces, in a row, and then what is not read yet
pub record HasRead (fed : List ℕ) (all : List Piece) (unread : Unread) : Type 0 where
  pub leads : Leads [] all unread.threads
  pub parts : fed ≡ flat_map piece_bytes all ++ unread.bytes
  pub place : unread.place ≡ min (length (flat_map piece_bytes all)) (2 ^ 64 - 1)

-- nothing was read of nothing
abbrev pub NothingIsRead : Type 0
NothingIsRead = HasRead [] [] unfed

-- bytes that are fed stand behind those that were fed before
abbrev pub FedBytesStandBehind : Type 0
FedBytesStandBehind = (fed bytes : List ℕ) (all : List Piece) (unread : Unread) → HasRead fed all unread → HasRead (fed ++ bytes) all (fed_with bytes unread)

-- the next piece stands behind those that were read before
abbrev pub NextPieceStandsBehind : Type 0
NextPieceStandsBehind = (fed : List ℕ) (all : List Piece) (before : Unread) (piece : Piece) (after : Unread) → AreBytes fed → HasRead fed all before → IsNext before piece after → HasRead fed (all ++ piece ∷ []) after
