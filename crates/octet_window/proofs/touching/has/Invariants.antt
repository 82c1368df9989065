use Rattle.std.proofs.Common.{◌≡◌, drop}
use Rattle.octet_window.specs.Noting.{has}
use Rattle.octet_window.proofs.touching.has.Given as goal

abbrev pub invariant-loop-other : goal.invariant-loop-other
invariant-loop-other l = has (drop l.other-index l.objects) l.object ≡ has l.objects l.object
