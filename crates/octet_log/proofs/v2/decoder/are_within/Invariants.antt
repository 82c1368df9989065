use Rattle.std.proofs.Common.{◌≡◌, drop, nat_le, sum_by}
use Rattle.octet_log.proofs.v2.decoder.are_within.Given as goal

-- the gaps that are left are to be within the accesses that are left
abbrev pub invariant-loop-gapped : goal.invariant-loop-gapped
invariant-loop-gapped l = nat_le (sum_by (λ m. m.gap) (drop l.gapped-index l.marks)) l.left ≡ nat_le (sum_by (λ m. m.gap) l.marks) l.accesses
