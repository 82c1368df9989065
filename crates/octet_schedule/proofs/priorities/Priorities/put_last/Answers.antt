use Rattle.std.proofs.Common.{◌<◌, ◌≤◌, length, arith}
use Rattle.octet_model.specs.declared.limits.TheConstants.{MAX_THREADS}
use Rattle.octet_schedule.proofs.Readiness.{worker_below}
use Rattle.octet_schedule.proofs.priorities.Priorities.put_last.Goals as goal

pub put_last-requires : goal.put_last-requires
put_last-requires c =
    let there : c.in-Some.thread < length c.args.ready.now =
    worker_below c.args.ready.now c.args.at_work c.in-Some.thread c.in-Some.is c.requires.at_work in
    let few : length c.args.ready.now ≤ MAX_THREADS = c.requires.few in
    omega arith
