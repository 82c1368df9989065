use Rattle.std.proofs.Common.{◌≡◌, List}
use Rattle.octet_model.specs.declared.event.Event.{Event}
use Rattle.octet_parallel.specs.Alone.{IsAloneAfter}
use Rattle.octet_parallel.proofs.solo.Growing.{events_left}
use Rattle.octet_parallel.proofs.alone.Alone.play.Given as goal

abbrev pub invariant-loop-event : goal.invariant-loop-event
invariant-loop-event g l = record {
  of : l.self.script ≡ l.fn.self.script;
  number : l.self.number ≡ l.fn.self.number;
  made : (journal : List Event) × IsAloneAfter l.fn.self.script.value l.log.threads l.fn.self.number journal l.self;
}

abbrev pub decreases-loop-event : goal.decreases-loop-event
decreases-loop-event g l = events_left l.own l.self.replay
