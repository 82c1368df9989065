-- The text of a marks file, piece by piece, and the lines for its end and for a refusal.
use Rattle.std.specs.Prelude.{ℕ, suc, List, [], ◌∷◌, ◌++◌, codes}
use Rattle.std.specs.List.{flat_map}
use Rattle.std.specs.Fmt.{decimal}
use Rattle.std.specs.Int.{to_be_bytes, w64}
use Rattle.hex.specs.Hex.{encode_lower}
use Rattle.octet_log.specs.Texts.{mark_line}
use Rattle.octet_marks.specs.declared.cause.MarksCause.{MarksCause}
use Rattle.octet_marks.specs.declared.cause.MarksCause.TheVariants.{NoMagic, BadVersion, BadLength, BadChecksum, BadKind, BadBody, BadThread, AfterEnd, OutOfOrder, BadMark, TooLong}
use Rattle.octet_marks.specs.declared.piece.Head.{Head}
use Rattle.octet_marks.specs.declared.piece.Block.{Block}
use Rattle.octet_marks.specs.declared.piece.End.{End}
use Rattle.octet_marks.specs.declared.piece.Piece.{Piece}
use Rattle.octet_marks.specs.declared.piece.Piece.TheVariants as pieces
use Rattle.octet_marks.specs.declared.reader.Ending.{Ending}
use Rattle.octet_marks.specs.declared.reader.Ending.TheVariants.{Whole, Cut}

-- the lines of the objects from a number on: the number and the value that the object starts with
abbrev pub start_lines : ℕ → List ℕ → List ℕ
start_lines object [] = []
start_lines object (start ∷ starts) = codes "object " ++ decimal object ++ codes " " ++ decimal start ++ codes "\n" ++ start_lines (suc object) starts

-- the lines of a head: how many threads, the digest of what the host declares, and a line for each object
abbrev pub head_text : Head → List ℕ
head_text head =
    codes "threads " ++ decimal head.threads ++ codes "\n"
    ++ codes "declared " ++ encode_lower head.declared.bytes ++ codes "\n"
    ++ start_lines 0 head.starts

-- the lines of a block: its thread and its first event, its marks, and the accesses after these with the digest
abbrev pub block_text : Block → List ℕ
block_text block =
    codes "block " ++ decimal block.thread ++ codes " first " ++ decimal block.first ++ codes "\n"
    ++ flat_map mark_line block.marks
    ++ codes "gap " ++ decimal block.gap ++ codes " digest " ++ encode_lower (to_be_bytes w64 block.digest) ++ codes "\n"

-- the line of an end: its thread, and how many events the thread has made
abbrev pub end_text : End → List ℕ
end_text end = codes "end " ++ decimal end.thread ++ codes " events " ++ decimal end.events ++ codes "\n"

-- the lines of a piece
abbrev pub piece_text : Piece → List ℕ
piece_text (pieces.Head head) = head_text head
piece_text (pieces.Block block) = block_text block
piece_text (pieces.End end) = end_text end

-- the last line
abbrev pub ending_text : Ending → List ℕ
ending_text Whole = codes "whole\n"
ending_text (Cut at left) = codes "cut at " ++ decimal at ++ codes ", " ++ decimal left ++ codes " bytes left aside\n"

-- the number and the words of a cause
abbrev pub cause_words : MarksCause → List ℕ
cause_words NoMagic = codes "1 no magic"
cause_words BadVersion = codes "2 bad version"
cause_words BadLength = codes "3 bad length"
cause_words BadChecksum = codes "4 bad checksum"
cause_words BadKind = codes "5 bad kind"
cause_words BadBody = codes "6 bad body"
cause_words BadThread = codes "7 bad thread"
cause_words AfterEnd = codes "8 after the end"
cause_words OutOfOrder = codes "9 out of order"
cause_words BadMark = codes "10 bad mark"
cause_words TooLong = codes "11 too long"

-- the line that says why, and where, bytes are refused as a marks file
abbrev pub refusal_line : MarksCause → ℕ → List ℕ
refusal_line cause at = codes "marks: " ++ cause_words cause ++ codes " at " ++ decimal at ++ codes "\n"
