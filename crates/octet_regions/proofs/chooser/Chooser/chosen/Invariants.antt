use Rattle.std.proofs.Common.{◌≡◌, ℕ, ◌<◌, List, length}
use Rattle.octet_regions.specs.declared.access.Access.{Access}
use Rattle.octet_regions.specs.code.Chooser.{AreWithin, KeepsChoice, left_of}
use Rattle.octet_regions.specs.Choice.{IsFree}
use Rattle.octet_regions.specs.code.Earlier.{region_of}
use Rattle.octet_regions.proofs.chooser.Chooser.chosen.Given as goal

abbrev pub invariant-loop-thread : goal.invariant-loop-thread
invariant-loop-thread l = record {
  order : l.self.order ≡ l.fn.self.order;
  many : length l.self.queues.items ≡ length l.fn.self.queues.items;
  within : AreWithin l.self.queues.items;
  left : left_of l.self.queues.items ≡ left_of l.fn.self.queues.items;
  keeps : (accesses : List Access) → KeepsChoice accesses l.fn.self → KeepsChoice accesses l.self;
  none : (accesses : List Access) → KeepsChoice accesses l.fn.self → (lower : ℕ) → lower < l.thread → (number : ℕ) → ¬ IsFree accesses l.self.order.items (region_of lower number);
}
