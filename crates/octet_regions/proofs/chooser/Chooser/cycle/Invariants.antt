use Rattle.std.proofs.Common.{◌≡◌, length}
use Rattle.octet_regions.specs.code.Chooser.{IsBehind}
use Rattle.octet_regions.specs.code.Walk.{WalksTo, fresh_of}
use Rattle.octet_regions.proofs.chooser.Chooser.cycle.Given as goal

abbrev pub invariant-loop-came : goal.invariant-loop-came
invariant-loop-came l = record {
  many : length l.came.items ≡ length l.self.queues.items;
  behind : IsBehind l.self.queues.items l.at;
  walks : WalksTo l.accesses l.self.order.items l.start l.at l.came.items l.hops.items;
}

abbrev pub decreases-loop-came : goal.decreases-loop-came
decreases-loop-came l = fresh_of l.came.items
