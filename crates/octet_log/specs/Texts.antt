-- The text of a log, and the line that says why bytes are refused as a log.
use Rattle.std.specs.Prelude.{ℕ, suc, List, [], ◌∷◌, ◌++◌, codes, length}
use Rattle.std.specs.List.{flat_map}
use Rattle.std.specs.Fmt.{decimal}
use Rattle.octet_model.specs.declared.event.Mark.{Mark}
use Rattle.octet_model.specs.declared.event.Mark.TheVariants.{Join, Draw, Fence}
use Rattle.octet_model.specs.declared.log.Gapped.{Gapped}
use Rattle.octet_model.specs.declared.log.ThreadLog.{ThreadLog}
use Rattle.octet_log.specs.declared.cause.LogCause.{LogCause}
use Rattle.octet_log.specs.declared.cause.LogCause.TheVariants.{NoMagic, BadVersion, BadThreads, CutShort, BadMark, TooManyAccesses, Trailing, BadNumber, BadPiece, GapsOver, TooManyMarks}

-- the word of a mark, and its numbers
abbrev pub mark_words : Mark → List ℕ
mark_words (Join from upto) = codes "join " ++ decimal from ++ codes " " ++ decimal upto
mark_words (Draw number) = codes "draw " ++ decimal number
mark_words (Fence number) = codes "fence " ++ decimal number

-- the line of a mark with its gap
abbrev pub mark_line : Gapped → List ℕ
mark_line gapped = codes "gap " ++ decimal gapped.gap ++ codes " " ++ mark_words gapped.mark ++ codes "\n"

-- the line of a thread, and a line for each of its marks
abbrev pub thread_text : ℕ → ThreadLog → List ℕ
thread_text thread log =
    codes "thread " ++ decimal thread ++ codes " accesses " ++ decimal log.accesses ++ codes " marks " ++ decimal (length log.marks) ++ codes "\n"
    ++ flat_map mark_line log.marks

-- the texts of the threads from a number on
abbrev pub thread_texts : ℕ → List ThreadLog → List ℕ
thread_texts thread [] = []
thread_texts thread (log ∷ logs) = thread_text thread log ++ thread_texts (suc thread) logs

-- the text of a log: its number of threads, and the text of each
abbrev pub log_text : List ThreadLog → List ℕ
log_text logs = codes "threads " ++ decimal (length logs) ++ codes "\n" ++ thread_texts 0 logs

-- the number of a cause, its words, and its place or its thread where it has one
abbrev pub refusal_words : LogCause → List ℕ
refusal_words NoMagic = codes "1 no magic"
refusal_words BadVersion = codes "2 bad version"
refusal_words BadThreads = codes "3 bad threads"
refusal_words (CutShort at) = codes "4 cut short at " ++ decimal at
refusal_words (BadMark at) = codes "5 bad mark at " ++ decimal at
refusal_words TooManyAccesses = codes "6 too many accesses"
refusal_words (Trailing at) = codes "7 trailing at " ++ decimal at
refusal_words (BadNumber at) = codes "8 bad number at " ++ decimal at
refusal_words (BadPiece at) = codes "9 bad piece at " ++ decimal at
refusal_words (GapsOver thread) = codes "10 gaps over accesses of thread " ++ decimal thread
refusal_words TooManyMarks = codes "11 too many marks"

-- the line that says why bytes are refused as a log
abbrev pub refusal_line : LogCause → List ℕ
refusal_line cause = codes "log: " ++ refusal_words cause ++ codes "\n"
