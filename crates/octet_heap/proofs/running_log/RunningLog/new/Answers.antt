use Rattle.std.proofs.Common.{◌≤◌, arith}
use Rattle.octet_heap.proofs.running_log.RunningLog.new.Goals as goal

pub invariant_of-result-clause-told : goal.invariant_of-result-clause-told
invariant_of-result-clause-told c = λ n room near few.
    let exact = c.in_ok-with_capacity.ensures.exact in
    let left : 15 ≤ c.args.marks = omega arith in
    c.limit_after.ensures.told n left near few
