use Rattle.std.proofs.Common.{◌≡◌, ◌+◌, ◌≤◌, length, List}
use Rattle.octet_tail.specs.declared.placed.Placed.{Placed}
use Rattle.octet_tail.specs.Fronts.{IsFinder}
use Rattle.octet_tail.proofs.finder.FrontFinder.settle.Given as goal

abbrev pub invariant-loop-round : goal.invariant-loop-round
invariant-loop-round l = record {
  finds : (marks : List Placed) → IsFinder marks l.initial.self → IsFinder marks l.self;
  asked : l.self.asked ≡ l.initial.self.asked;
  few : length l.self.kept.items + l.round ≤ length l.initial.self.kept.items;
}
