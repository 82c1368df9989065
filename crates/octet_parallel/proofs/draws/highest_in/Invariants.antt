use Rattle.std.proofs.Common.{◌≡◌, drop}
use Rattle.octet_parallel.specs.Draws.{highest_in}
use Rattle.octet_parallel.proofs.draws.highest_in.Given as goal

abbrev pub invariant-loop-log : goal.invariant-loop-log
invariant-loop-log l = highest_in (drop l.log-index l.logs) l.highest ≡ highest_in l.logs 0
