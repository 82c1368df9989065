-- How events and their places are said.
use Rattle.std.specs.Prelude.{ℕ, ◌++◌, List, [], codes, None, Some, slice_get}
use Rattle.std.specs.Fmt.{decimal}
use Rattle.octet_model.specs.declared.event.Event.{Event}
use Rattle.octet_model.specs.declared.event.Event.TheVariants.{Read, Write, Update, Marked}
use Rattle.octet_model.specs.declared.event.Place.{Place}
use Rattle.octet_model.specs.declared.script.Script.{Script}
use Rattle.octet_log.specs.Texts.{mark_words}
use Rattle.octet_commands.specs.Answer.{place_text}

-- the name of a script's object
abbrev pub object_name : Script → ℕ → List ℕ
object_name script object = elim (slice_get script.objects object) [ None ↦ [] | Some found ↦ found.name ]

-- the text of an event: an access of an object with its values, or a mark with its numbers
abbrev pub event_text : Script → Event → List ℕ
event_text script (Read object value) = codes "read " ++ object_name script object ++ codes " " ++ decimal value
event_text script (Write object value) = codes "write " ++ object_name script object ++ codes " " ++ decimal value
event_text script (Update object before after) = codes "update " ++ object_name script object ++ codes " " ++ decimal before ++ codes " " ++ decimal after
event_text script (Marked mark) = mark_words mark

-- the text of a place and of the event there
abbrev pub placed_text : Script → Place → Event → List ℕ
placed_text script place event = place_text place ++ codes " " ++ event_text script event
