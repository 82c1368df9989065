use Rattle.std.proofs.Common.{arith}
use Rattle.octet_clock.proofs.checks.SharedObjects.{no_conflict, within}
use Rattle.octet_clock.proofs.sharing.nothing_conflicts.Goals as goal

pub returns : goal.returns
returns c is =
    let journals = c.args.journals.now in
    no_conflict journals c.loop-thread.objects.sharing.items
    (λ place event at. c.loop-thread.invariant place event (omega (arith, within journals place event at, c.loop-thread-test.false, c.loop-thread.auto.thread-end)) at)
