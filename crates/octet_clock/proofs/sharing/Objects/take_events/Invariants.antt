use Rattle.octet_clock.specs.Sharing.{TakesEvents}
use Rattle.octet_clock.proofs.sharing.Objects.take_events.Given as goal

abbrev pub invariant-loop-event : goal.invariant-loop-event
invariant-loop-event l = TakesEvents l.fn.self.sharing.items l.thread l.events l.event-index l.self.sharing.items
