use Rattle.std.proofs.Common.{◌≡◌, ◌++◌, drop}
use Rattle.std.specs.List.{flat_map}
use Rattle.octet_log.specs.v2.Short.{short_bytes}
use Rattle.octet_log.specs.v2.Pieces.{tail_bytes}
use Rattle.octet_log.proofs.v2.encoder.push_tail.Given as goal

-- what is written and what is left are the tail's bytes
abbrev pub invariant-loop-log : goal.invariant-loop-log
invariant-loop-log l = l.out.items ++ flat_map (λ log. short_bytes log.accesses) (drop l.log-index l.logs) ≡ l.fn.out.items ++ tail_bytes l.logs
