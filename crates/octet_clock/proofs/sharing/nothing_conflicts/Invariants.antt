use Rattle.std.proofs.Common.{◌≡◌, ◌<◌, Some}
use Rattle.octet_model.specs.declared.event.Event.{Event}
use Rattle.octet_model.specs.declared.event.Place.{Place}
use Rattle.octet_model.specs.HappensBefore.{event_at}
use Rattle.octet_clock.specs.Sharing.{IsAllowed}
use Rattle.octet_clock.proofs.sharing.nothing_conflicts.Given as goal

-- the events of the threads before are taken in
abbrev pub invariant-loop-thread : goal.invariant-loop-thread
invariant-loop-thread l = (place : Place) (event : Event) → place.thread < l.thread → event_at l.journals place ≡ Some event → IsAllowed l.objects.sharing.items place.thread event
