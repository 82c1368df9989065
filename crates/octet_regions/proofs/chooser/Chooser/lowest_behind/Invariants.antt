use Rattle.std.proofs.Common.{ℕ, ◌<◌}
use Rattle.octet_regions.specs.code.Chooser.{IsBehind}
use Rattle.octet_regions.proofs.chooser.Chooser.lowest_behind.Given as goal

abbrev pub invariant-loop-thread : goal.invariant-loop-thread
invariant-loop-thread l = (lower : ℕ) → lower < l.thread → ¬ IsBehind l.self.queues.items lower
