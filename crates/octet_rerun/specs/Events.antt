-- The events of accesses.
use Rattle.std.specs.Prelude.{ℕ}
use Rattle.octet_model.specs.declared.event.Event.{Event}
use Rattle.octet_model.specs.declared.event.Event.TheVariants as event
use Rattle.octet_recorder.specs.declared.access.Access.{Access}
use Rattle.octet_recorder.specs.declared.access.Access.TheVariants.{Read, Write, Update}
use Rattle.octet_rule.specs.Changes.{changed_by}

-- the event of an access that finds this value: an update is told by the value that it makes
abbrev pub event_of : Access → ℕ → Event
event_of (Read object) found = event.Read object found
event_of (Write object value) found = event.Write object value
event_of (Update object change) found = event.Update object found (changed_by change found)

-- the value that an event found. Of a write it is the one that it wrote
abbrev pub found_in : Event → ℕ
found_in (event.Read object value) = value
found_in (event.Write object value) = value
found_in (event.Update object before after) = before
found_in (event.Marked mark) = 0
