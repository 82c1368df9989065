use Rattle.std.proofs.Common.{◌≡◌, map}
use Rattle.octet_c.proofs.long.box_all.Given as goal

abbrev pub invariant-loop-it : goal.invariant-loop-it
invariant-loop-it g l = map (λ box. box.value) l.boxes.items ≡ map (λ it. g.T.Behind.as_held it) l.yielded
