use Rattle.std.proofs.Common.{refl, arith}
use Rattle.octet_replay.proofs.Stepping.{halted, lowest_step_is, next_read, ready_within}
use Rattle.octet_replay.proofs.replayer.replay.Replay.lowest_step.Goals as goal

pub returns-in_default-clause-none : goal.returns-in_default-clause-none
returns-in_default-clause-none c none = halted c.args.self.now c.requires.at (c.in_default.ensures.none refl)

pub index-requires : goal.index-requires
index-requires c = omega (arith, ready_within c.args.self.now c.requires.at c.in-Some.thread c.in-Some.ensures.some.is_met)

pub returns-clause-some : goal.returns-clause-some
returns-clause-some c =
    let r = c.args.self.now in
    let thread = c.in-Some.thread in
    let ready = c.in-Some.ensures.some.is_met in
    let its =
    next_read r c.requires.at thread ready c.args.log.now c.as_slice.result.now c.index-as_slice-thread.result c.requires.of_log c.as_slice.ensures c.index-as_slice-thread.is
    c.index.result.now c.next-next.result c.index.ensures c.next-next.ensures.next c.next-next.ensures.within in
    lowest_step_is r c.requires.at thread ready c.next-next.result its c.in-Some.ensures.some
