use Rattle.std.proofs.Common.{◌≡◌, ◌++◌, drop}
use Rattle.octet_tail.specs.Searches.{counts_in}
use Rattle.octet_tail.proofs.search.counts_of.Given as goal

abbrev pub invariant-loop-one : goal.invariant-loop-one
invariant-loop-one l = l.counts.items ++ counts_in (drop l.one-index l.made) ≡ counts_in l.made
