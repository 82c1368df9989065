use Rattle.std.proofs.Common.{◌≡◌}
use Rattle.octet_log.specs.v2.Decoding.{no_marks}
use Rattle.octet_log.proofs.v2.decoder.empty_logs.Given as goal

abbrev pub invariant-loop : goal.invariant-loop
invariant-loop l = l.logs.items ≡ no_marks l.counter
