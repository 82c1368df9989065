use Rattle.octet_tail.specs.Fronts.{IsRound}
use Rattle.octet_tail.proofs.finder.sift_all.Given as goal

abbrev pub invariant-loop-placed : goal.invariant-loop-placed
invariant-loop-placed l = IsRound l.all l.fn.needs l.needs l.placed-index l.kept.items
