-- The trace of an order: its events as they are made, each with its place.
use Rattle.std.specs.Prelude.{ℕ, List, [], ◌∷◌, ◌++◌, length}
use Rattle.octet_model.specs.declared.event.Event.{Event}
use Rattle.octet_model.specs.declared.event.Place.{Place}
use Rattle.octet_model.specs.declared.log.ThreadLog.{ThreadLog}
use Rattle.octet_model.specs.declared.script.Script.{Script}
use Rattle.octet_model.specs.Machine.{journal_of, PlainState, Next, Wants, Finished, NothingFits, Behavior, event_made, next_of, step}
use Rattle.octet_model.specs.Orders.{by_log, opening_state, lowest_order}

-- the event that a thread makes next, with its place at the end of the journal
abbrev pub event_placed : PlainState → ℕ → Next → List (Place × Event)
event_placed s thread (Wants operation) = (record { thread = thread; event = length (journal_of s.journals thread) }, event_made operation s.heap) ∷ []
event_placed s thread Finished = []
event_placed s thread NothingFits = []

-- the events of a front from a state on, each with its place
abbrev pub trace_along : Behavior → PlainState → List ℕ → List (Place × Event)
trace_along behavior s [] = []
trace_along behavior s (thread ∷ front) = event_placed s thread (next_of behavior s thread) ++ trace_along behavior (step behavior s thread) front

-- the events of the lowest order of a script and a log, each with its place
abbrev pub trace_of : Script → List ThreadLog → List (Place × Event)
trace_of script log = trace_along (by_log script log) (opening_state script) (lowest_order script log)
