use Rattle.std.proofs.Common.{◌≡◌, All, length}
use Rattle.octet_host.proofs.desk.places.Given as goal

abbrev pub invariant-loop : goal.invariant-loop
invariant-loop g l = record {
  count : length l.places.items ≡ l.counter;
  tags : All (λ tag. tag ≡ l.run) l.places.items;
}
