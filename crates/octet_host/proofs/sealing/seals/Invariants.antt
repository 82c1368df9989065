use Rattle.std.proofs.Common.{◌≡◌, length}
use Rattle.octet_host.proofs.sealing.seals.Given as goal

abbrev pub invariant-loop : goal.invariant-loop
invariant-loop g l = record { count : length l.seals.items ≡ l.counter }
