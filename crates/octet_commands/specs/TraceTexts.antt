-- What `trace` says: each event, and before an event the `region` commands that its thread ran since its last access.
-- An access has the line of the script whose command made it.
use Rattle.std.specs.Prelude.{ℕ, ◌-◌, if◌then◌else◌, List, [], ◌∷◌, ◌++◌, codes, length, get_or}
use Rattle.std.specs.Fmt.{decimal}
use Rattle.octet_model.specs.declared.command.Command.{Command}
use Rattle.octet_model.specs.declared.event.Event.{Event}
use Rattle.octet_model.specs.declared.event.Place.{Place}
use Rattle.octet_model.specs.declared.script.Script.{Script}
use Rattle.octet_model.specs.Thread.{Configuration, starting_configuration}
use Rattle.octet_model.specs.Machine.{Journals, journal_of, no_events, appended}
use Rattle.octet_model.specs.HappensBefore.{is_access}
use Rattle.octet_model.specs.Orders.{commands_of}
use Rattle.octet_script.specs.LineNumbers.{command_lines}
use Rattle.octet_interp.specs.Regions.{regions_before}
use Rattle.octet_interp.specs.Following.{access_place, places_before_next}
use Rattle.octet_commands.specs.Answer.{place_text}
use Rattle.octet_commands.specs.EventTexts.{placed_text}

-- the line of the script with a thread's command at a place, by the lines of each thread's commands
abbrev pub line_in : List (List ℕ) → ℕ → ℕ → ℕ
line_in lines thread place = get_or (get_or lines thread []) place 0

-- the words that name a line of the script, at the end of a line of the trace
abbrev pub line_words : ℕ → List ℕ
line_words line = codes " line " ++ decimal line

-- the trace's line for the `region` command of this number, before the event at the place
abbrev pub region_line : Place → ℕ → ℕ → List ℕ
region_line place number line = place_text place ++ codes " region " ++ decimal number ++ line_words line ++ codes "\n"

-- the lines for the `region` commands at these places of a thread, the last of which has the number `last`
abbrev pub region_lines : List (List ℕ) → Place → ℕ → List ℕ → List ℕ
region_lines lines place last [] = []
region_lines lines place last (command ∷ more) = region_line place (last - length more) (line_in lines place.thread command) ++ region_lines lines place last more

-- the words that name the line of the command that made an access. A mark has none
abbrev pub made_by : ℕ → Event → List ℕ
made_by line event = if is_access event then line_words line else []

-- the lines for an event of a thread with these commands, after the events of its journal
abbrev pub event_lines : List (List ℕ) → Script → List Command → Configuration → List Event → Place × Event → List ℕ
event_lines lines script commands start journal item =
    region_lines lines item.0 (regions_before commands start journal) (places_before_next commands start journal)
    ++ placed_text script item.0 item.1 ++ made_by (line_in lines item.0.thread (access_place commands start journal)) item.1 ++ codes "\n"

-- the lines for the events of a trace, after these events of each thread
abbrev pub lines_after : List (List ℕ) → Script → Journals → List (Place × Event) → List ℕ
lines_after lines script told [] = []
lines_after lines script told (item ∷ trace) =
    event_lines lines script (commands_of script item.0.thread) (starting_configuration script.fuel) (journal_of told item.0.thread) item
    ++ lines_after lines script (appended told item.0.thread item.1) trace

-- the text of a trace of a script with this text
abbrev pub trace_text : List ℕ → Script → List (Place × Event) → List ℕ
trace_text text script trace = lines_after (command_lines text) script (no_events script.threads) trace
