-- What a replay of a log up to its end tells of one event.
use Rattle.std.specs.Prelude.{◌≡◌, List, length, Some}
use Rattle.octet_model.specs.declared.event.Place.{Place}
use Rattle.octet_model.specs.declared.log.ThreadLog.{ThreadLog}
use Rattle.octet_model.specs.declared.script.Script.{Script}
use Rattle.octet_model.specs.HappensBefore.{event_at, IsEvent}
use Rattle.octet_model.specs.Orders.{journals_after, lowest_order}
use Rattle.octet_slice.specs.declared.replaying.Replayed.{Replayed}

-- the lowest order makes an event at the place
abbrev pub MakesEventAt : Script → List ThreadLog → Place → Type 0
MakesEventAt script log place = IsEvent (journals_after script log (lowest_order script log)) place

-- the event at the place is this one, and the lowest order has so many steps
pub record IsReplayedTo (script : Script) (log : List ThreadLog) (place : Place) (replayed : Replayed) : Type 0 where
  pub is_event : event_at (journals_after script log (lowest_order script log)) place ≡ Some replayed.event
  pub made : replayed.made ≡ length (lowest_order script log)
