use Rattle.std.proofs.Common.{◌≡◌, ◌++◌, drop}
use Rattle.octet_window.specs.Noting.{events_of, notes_in}
use Rattle.octet_tail.specs.Merging.{merged}
use Rattle.octet_tail.proofs.merging.merge.Given as goal

abbrev pub invariant-loop-placed : goal.invariant-loop-placed
invariant-loop-placed l = events_of (notes_in l.notes) ++ merged l.front l.come l.left (drop l.placed-index l.marks) ≡ merged l.front l.before l.accesses l.marks
