use Rattle.std.proofs.Common.{◌≡◌, take}
use Rattle.octet_model.proofs.clone.clone_objects.Given as goal

abbrev pub invariant-loop-object : goal.invariant-loop-object
invariant-loop-object l = l.copy ≡ take l.object-index l.objects
