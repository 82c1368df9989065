use Rattle.std.proofs.Common.{◌≡◌, ◌+◌, true, drop}
use Rattle.octet_window.specs.Noting.{has, place_of}
use Rattle.octet_window.proofs.touching.place_of.Given as goal

abbrev pub invariant-loop-other : goal.invariant-loop-other
invariant-loop-other l = record {
  index : l.place ≡ l.other-index;
  has_ : has (drop l.other-index l.objects) l.object ≡ true;
  place : l.place + place_of (drop l.other-index l.objects) l.object ≡ place_of l.objects l.object;
}
