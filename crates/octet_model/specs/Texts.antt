-- The text of an outcome, and the bytes of a log.
use Rattle.std.specs.Prelude.{ℕ, suc, List, [], ◌∷◌, ◌++◌, codes, length}
use Rattle.std.specs.List.{flat_map}
use Rattle.std.specs.Int.{to_be_bytes, w32, w64}
use Rattle.std.specs.Fmt.{decimal}
use Rattle.octet_model.specs.declared.object.Object.{Object}
use Rattle.octet_model.specs.declared.script.Script.{Script}
use Rattle.octet_model.specs.declared.event.Mark.{Mark}
use Rattle.octet_model.specs.declared.event.Mark.TheVariants.{Join, Draw, Fence}
use Rattle.octet_model.specs.declared.log.Gapped.{Gapped}
use Rattle.octet_model.specs.declared.log.ThreadLog.{ThreadLog}
use Rattle.octet_model.specs.declared.outcome.End.{End}
use Rattle.octet_model.specs.declared.outcome.End.TheVariants.{Done, Spent}
use Rattle.octet_model.specs.declared.outcome.Outcome.{Outcome}

-- the 14 bytes of a mark: kind, gap, thread and number
abbrev pub mark_fields : ℕ → ℕ → ℕ → ℕ → List ℕ
mark_fields kind gap thread number = kind ∷ to_be_bytes w32 gap ++ thread ∷ to_be_bytes w64 number

-- the bytes of a mark with its gap
abbrev pub bytes_of_mark : ℕ → Mark → List ℕ
bytes_of_mark gap (Join from upto) = mark_fields 1 gap from upto
bytes_of_mark gap (Draw number) = mark_fields 2 gap 0 number
bytes_of_mark gap (Fence number) = mark_fields 3 gap 0 number

-- the bytes of a gapped mark
abbrev pub mark_bytes : Gapped → List ℕ
mark_bytes gapped = bytes_of_mark gapped.gap gapped.mark

-- the bytes of the log of a thread: its number of accesses, its number of marks, and its marks
abbrev pub thread_bytes : ThreadLog → List ℕ
thread_bytes log = to_be_bytes w32 log.accesses ++ to_be_bytes w32 (length log.marks) ++ flat_map mark_bytes log.marks

-- the bytes of a log, in version 1 of its format
abbrev pub log_bytes : List ThreadLog → List ℕ
log_bytes logs = codes "OCTL" ++ 1 ∷ length logs ∷ flat_map thread_bytes logs

-- the word for the end of a thread
abbrev pub end_word : End → List ℕ
end_word Done = codes "done"
end_word Spent = codes "spent"

-- a space and the value in decimal digits
abbrev pub value_word : ℕ → List ℕ
value_word value = codes " " ++ decimal value

-- the line of a thread: its number, its end and the values that it read
abbrev pub thread_line : ℕ → End → List ℕ → List ℕ
thread_line thread end values = codes "thread " ++ decimal thread ++ codes " " ++ end_word end ++ flat_map value_word values ++ codes "\n"

-- the lines of the threads from a number on
abbrev pub thread_lines : ℕ → List End → List (List ℕ) → List ℕ
thread_lines thread (end ∷ ends) (values ∷ reads) = thread_line thread end values ++ thread_lines (suc thread) ends reads
thread_lines thread _ _ = []

-- the line of an object: its name and its value
abbrev pub object_line : Object → ℕ → List ℕ
object_line object value = codes "object " ++ object.name ++ codes " " ++ decimal value ++ codes "\n"

-- the lines of all objects, with their values from the heap
abbrev pub object_lines : List Object → List ℕ → List ℕ
object_lines (object ∷ objects) (value ∷ heap) = object_line object value ++ object_lines objects heap
object_lines _ _ = []

-- the text of an outcome: a line for each thread with its end and the values that it read,
-- and a line for each object with its value
abbrev pub outcome_text : Script → Outcome → List ℕ
outcome_text script outcome = thread_lines 0 outcome.ends outcome.reads ++ object_lines script.objects outcome.heap
