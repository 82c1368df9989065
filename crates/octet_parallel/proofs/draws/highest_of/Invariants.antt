use Rattle.std.proofs.Common.{◌≡◌, drop}
use Rattle.octet_parallel.specs.Draws.{highest_of}
use Rattle.octet_parallel.proofs.draws.highest_of.Given as goal

abbrev pub invariant-loop-next : goal.invariant-loop-next
invariant-loop-next l = highest_of (drop l.next-index l.marks) l.highest ≡ highest_of l.marks l.before
