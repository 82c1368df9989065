-- What `slice` and `stop` answer.
use Rattle.std.specs.Prelude.{ℕ, ◌≡◌, ◌≢◌, ◌⊎◌, ◌++◌, ◌==◌, ◌&&◌, List, [], codes, Bool, false, Option, None, Some}
use Rattle.std.specs.Fmt.{decimal}
use Rattle.octet_model.specs.declared.event.Event.{Event}
use Rattle.octet_model.specs.declared.event.Event.TheVariants.{Read, Write, Update, Marked}
use Rattle.octet_model.specs.declared.event.Place.{Place}
use Rattle.octet_model.specs.declared.log.ThreadLog.{ThreadLog}
use Rattle.octet_model.specs.declared.script.Script.{Script}
use Rattle.octet_model.specs.Orders.{journals_after, lowest_order}
use Rattle.octet_model.specs.Traces.{trace_of}
use Rattle.octet_slice.specs.declared.finding.Found.{Found}
use Rattle.octet_slice.specs.declared.finding.Found.TheVariants.{At, Nowhere}
use Rattle.octet_slice.specs.declared.slicing.Sliced.{Sliced}
use Rattle.octet_slice.specs.declared.slicing.SliceFault.{SliceFault}
use Rattle.octet_slice.specs.declared.slicing.SliceFault.TheVariants.{NoThread, NoEvent, OutOfMemory}
use Rattle.octet_slice.specs.FirstMatch.{IsFound}
use Rattle.octet_slice.specs.Slice.{HasEvent, HasSliceCause, IsSliceOf}
use Rattle.octet_commands.specs.declared.reply.Status.TheVariants.{Done}
use Rattle.octet_commands.specs.declared.reply.Status.TheVariants as exit
use Rattle.octet_commands.specs.Answer.{Answer, says}
use Rattle.octet_commands.specs.EventTexts.{placed_text}

-- the text of a slice: the place, its event, and how many events of all lie in its past
abbrev pub slice_text : Script → Place → Sliced → List ℕ
slice_text script place sliced =
    codes "slice " ++ placed_text script place sliced.event ++ codes "\nevents " ++ decimal sliced.made ++ codes " of " ++ decimal sliced.all ++ codes "\n"

-- the line that tells how many threads, or events of the thread, there are. Out of memory has no line
abbrev pub slice_line : SliceFault → List ℕ
slice_line (NoThread threads) = codes "slice: threads " ++ decimal threads ++ codes "\n"
slice_line (NoEvent events) = codes "slice: events " ++ decimal events ++ codes "\n"
slice_line OutOfMemory = []

-- the answer tells the slice of an event, or why there is no such event, in a log that orders all conflicts
abbrev pub SliceSays : Script → List ThreadLog → ℕ → ℕ → Answer → Type 0
SliceSays script log thread event answer =
    ((fault : SliceFault) × (fault ≢ OutOfMemory) × HasSliceCause log thread event fault × (answer ≡ says exit.NoEvent (slice_line fault)))
    ⊎ ((sliced : Sliced) × HasEvent log thread event × IsSliceOf (journals_after script log (lowest_order script log)) (record { thread = thread; event = event }) sliced
    × (answer ≡ says Done (slice_text script (record { thread = thread; event = event }) sliced)))

-- the test whether an event reads or writes this value at the wanted object, or updates the object to it
abbrev pub is_match : Option ℕ → ℕ → Event → Bool
is_match None value event = false
is_match (Some wanted) value (Read object read) = (object == wanted) && (read == value)
is_match (Some wanted) value (Write object written) = (object == wanted) && (written == value)
is_match (Some wanted) value (Update object before after) = (object == wanted) && (after == value)
is_match (Some wanted) value (Marked mark) = false

-- the text of the first event that matches, with its place, or the text that there is none
abbrev pub stop_text : Script → Found → List ℕ
stop_text script (At place event) = codes "stop " ++ placed_text script place event ++ codes "\n"
stop_text script Nowhere = codes "no stop\n"

-- the answer tells the first event of the lowest order that matches, or that there is none
abbrev pub StopSays : Script → List ThreadLog → Option ℕ → ℕ → Answer → Type 0
StopSays script log wanted value answer = (found : Found) × IsFound (λ event answer. answer ≡ is_match wanted value event) (trace_of script log) found × (answer ≡ says Done (stop_text script found))
