use Rattle.std.proofs.Common.{refl}
use Rattle.octet_replay.proofs.Stepping.{halted, own_log_read, next_read}
use Rattle.octet_replay.proofs.replayer.replay.Replay.step.Goals as goal

pub returns-in_default-clause-steps : goal.returns-in_default-clause-steps
returns-in_default-clause-steps c = (halted c.args.self.now c.requires.at (c.in_default.ensures.none refl), refl)

pub make_next-event-requires-clause-its : goal.make_next-event-requires-clause-its
make_next-event-requires-clause-its c =
    next_read c.args.self.now c.requires.at c.in-Some.thread c.in-Some.ensures.some.is_met c.args.log.now c.as_slice.result.now c.index-as_slice-thread.result c.requires.of_log c.as_slice.ensures c.index-as_slice-thread.is
    c.index.result.now c.next-next.result c.index.ensures c.next-next.ensures.next c.next-next.ensures.within

pub make_next-event-requires-clause-of_log : goal.make_next-event-requires-clause-of_log
make_next-event-requires-clause-of_log c =
    own_log_read c.args.self.now c.requires.at c.in-Some.thread c.in-Some.ensures.some.is_met c.args.log.now c.as_slice.result.now c.index-as_slice-thread.result c.requires.of_log c.as_slice.ensures c.index-as_slice-thread.is
