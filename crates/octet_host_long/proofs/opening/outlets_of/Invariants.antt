use Rattle.std.proofs.Common.{◌≡◌, All, map}
use Rattle.octet_host_long.specs.Opened.{IsOutlet}
use Rattle.octet_host_long.proofs.opening.outlets_of.Given as goal

abbrev pub invariant-loop-receiver : goal.invariant-loop-receiver
invariant-loop-receiver l = record {
  each : All IsOutlet l.outlets.items;
  receivers : map (λ outlet. outlet.writer.receiver) l.outlets.items ≡ l.yielded;
}
