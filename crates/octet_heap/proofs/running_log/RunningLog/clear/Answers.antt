use Rattle.std.proofs.Common.{◌≤◌, arith}
use Rattle.octet_heap.proofs.running_log.RunningLog.clear.Goals as goal

pub invariant_of-self-clause-told : goal.invariant_of-self-clause-told
invariant_of-self-clause-told c = λ n room near few.
    let kept = c.capacity.ensures in
    let left : 15 ≤ c.capacity.result = omega arith in
    c.limit_after-self.ensures.told n left near few
