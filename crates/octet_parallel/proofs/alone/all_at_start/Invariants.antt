use Rattle.std.proofs.Common.{◌≡◌, length}
use Rattle.octet_parallel.specs.Alone.{AreAtStart}
use Rattle.octet_parallel.proofs.alone.all_at_start.Given as goal

abbrev pub invariant-loop-number : goal.invariant-loop-number
invariant-loop-number l = record {
  as_many : length l.threads.items ≡ l.number;
  each : AreAtStart l.script l.log.threads l.threads.items;
}
