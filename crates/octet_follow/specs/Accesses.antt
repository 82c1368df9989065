-- Accesses: the event of each, and what it makes of a follower.
use Rattle.std.specs.Prelude.{◌≡◌, ℕ, false, [], ◌∷◌}
use Rattle.octet_model.specs.declared.event.Event.{Event}
use Rattle.octet_model.specs.declared.event.Event.TheVariants as event
use Rattle.octet_rule.specs.Changes.{changed_by}
use Rattle.octet_follow.specs.declared.access.Access.{Access}
use Rattle.octet_follow.specs.declared.access.Access.TheVariants.{Read, Write, Update}
use Rattle.octet_follow.specs.Views.{FollowerView}
use Rattle.octet_follow.specs.Seats.{Goes}

-- the object of an access
abbrev pub object_in : Access → ℕ
object_in (Read object) = object
object_in (Write object value) = object
object_in (Update object change) = object

-- the event of an access whose cell had this value
abbrev pub event_of : Access → ℕ → Event
event_of (Read object) found = event.Read object found
event_of (Write object value) found = event.Write object value
event_of (Update object change) found = event.Update object found (changed_by change found)

-- the value that an event found. Of a write it is the one that it wrote
abbrev pub found_in : Event → ℕ
found_in (event.Read object value) = value
found_in (event.Write object value) = value
found_in (event.Update object before after) = before
found_in (event.Marked mark) = 0

-- the follower has made this access, with the value that the thread is told, and shows as much as before
pub record GoesBy (access : Access) (v : FollowerView) (value : ℕ) (w : FollowerView) : Type 0 where
  pub found : ℕ
  pub goes : Goes v (event_of access found ∷ []) false w
  pub told : value ≡ found_in (event_of access found)
