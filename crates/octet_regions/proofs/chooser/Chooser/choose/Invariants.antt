use Rattle.std.proofs.Common.{List}
use Rattle.octet_regions.specs.declared.access.Access.{Access}
use Rattle.octet_regions.specs.code.Chooser.{KeepsChoice, left_of}
use Rattle.octet_regions.proofs.Choosing.{Chose}
use Rattle.octet_regions.proofs.chooser.Chooser.choose.Given as goal

abbrev pub invariant-loop-region : goal.invariant-loop-region
invariant-loop-region l = record {
  some_accesses : (accesses : List Access) × KeepsChoice accesses l.self;
  all : (accesses : List Access) → KeepsChoice accesses l.fn.self → KeepsChoice accesses l.self × Chose accesses l.self.order.items;
}

abbrev pub decreases-loop-region : goal.decreases-loop-region
decreases-loop-region l = left_of l.self.queues.items
