use Rattle.std.proofs.Common.{◌≡◌, ◌*◌, ◌+◌, ◌^◌, ◌<◌, ◌≤◌, drop, sum_by}
use Rattle.std.specs.List.{AllByRecursion}
use Rattle.octet_blocks.proofs.sums.gaps_of.Given as goal

-- the sum so far, and the gaps that are left
abbrev pub invariant-loop-gapped : goal.invariant-loop-gapped
invariant-loop-gapped l = record {
  sum : l.sum + sum_by (λ m. m.gap) (drop l.gapped-index l.marks) ≡ sum_by (λ m. m.gap) l.marks;
  few : l.sum ≤ l.gapped-index * 2 ^ 32;
  fit : AllByRecursion (λ m. m.gap < 2 ^ 32) (drop l.gapped-index l.marks) → AllByRecursion (λ m. m.gap < 2 ^ 32) l.marks;
}
