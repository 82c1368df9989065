use Rattle.std.proofs.Common.{◌≡◌, map, take}
use Rattle.octet_model.proofs.script.Script.starting_heap.Given as goal

abbrev pub invariant-loop-object : goal.invariant-loop-object
invariant-loop-object l = l.heap.items ≡ map (λ object. object.start) (take l.object-index l.self.objects)
