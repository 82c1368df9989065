use Rattle.std.proofs.Common.{◌≡◌, ◌+◌, ◌≤◌, drop, sum_by}
use Rattle.octet_state.specs.declared.limits.TheConstants.{MAX_ACCESSES_OF_THREAD}
use Rattle.octet_marks.proofs.standing.gaps_of.Given as goal

-- the sum so far, and the gaps that are left
abbrev pub invariant-loop-gapped : goal.invariant-loop-gapped
invariant-loop-gapped l = record {
  sum : l.sum + sum_by (λ m. m.gap) (drop l.gapped-index l.marks) ≡ sum_by (λ m. m.gap) l.marks;
  few : l.sum ≤ MAX_ACCESSES_OF_THREAD;
}
