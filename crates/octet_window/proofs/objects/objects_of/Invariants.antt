use Rattle.std.proofs.Common.{◌≡◌, map, take}
use Rattle.octet_window.specs.Windows.{name_of}
use Rattle.octet_window.proofs.objects.objects_of.Given as goal

abbrev pub invariant-loop-place : goal.invariant-loop-place
invariant-loop-place l = record {
  names : map (λ object. object.name) l.list ≡ map name_of (take l.place l.objects);
  starts : map (λ object. object.start) l.list ≡ take l.place l.starts;
}
