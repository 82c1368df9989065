use Rattle.std.proofs.Common.{◌<◌}
use Rattle.octet_hunt.proofs.fewer.with_bursts_joined.Given as goal

abbrev pub invariant-loop-tried : goal.invariant-loop-tried
invariant-loop-tried l = 0 < l.after
