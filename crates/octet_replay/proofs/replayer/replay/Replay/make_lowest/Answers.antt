use Rattle.std.proofs.Common.{ℕ, subst}
use Rattle.octet_replay.specs.Needs.{IsLowestReady}
use Rattle.octet_replay.proofs.Stepping.{lowest_ready, lowest_step_is, next_at}
use Rattle.octet_replay.proofs.replayer.replay.Replay.make_lowest.Goals as goal

pub make_next-event-requires-clause-lowest : goal.make_next-event-requires-clause-lowest
make_next-event-requires-clause-lowest c = lowest_ready c.args.self.now c.requires.at c.args.step.thread c.requires.lowest.of_thread

pub make_next-event-requires-clause-its : goal.make_next-event-requires-clause-its
make_next-event-requires-clause-its c = next_at c.args.self.now c.requires.at c.args.step.thread c.args.step.next c.requires.lowest.is

pub returns-in-Some-clause-some : goal.returns-in-Some-clause-some
returns-in-Some-clause-some c =
    let after = c.make_next-event.new.self in
    let lowest = subst (λ (t : ℕ). IsLowestReady after.waits t) c.if-lowest-thread.true c.in-Some.ensures.some in
    lowest_step_is after c.make_next-event.ensures.at c.args.step.thread lowest.is_met c.make_next-event.result.1 c.make_next-event.ensures.its lowest
