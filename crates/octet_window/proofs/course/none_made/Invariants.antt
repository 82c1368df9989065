use Rattle.std.proofs.Common.{◌≡◌, map, take}
use Rattle.octet_window.proofs.course.none_made.Given as goal

abbrev pub invariant-loop-notes : goal.invariant-loop-notes
invariant-loop-notes l = l.made.items ≡ map (λ notes. 0) (take l._notes-index l.threads)
