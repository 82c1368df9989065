use Rattle.std.proofs.Common.{◌≡◌, All, map}
use Rattle.octet_host_long.specs.Opened.{IsInlet}
use Rattle.octet_host_long.proofs.following.inlets_of.Given as goal

abbrev pub invariant-loop-feeder : goal.invariant-loop-feeder
invariant-loop-feeder l = record {
  each : All (IsInlet l.head.value) l.inlets.items;
  feeders : map (λ inlet. inlet.reader.feeder) l.inlets.items ≡ l.yielded;
}
