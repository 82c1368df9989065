use Rattle.std.proofs.Common.{refl}
use Rattle.octet_replay.proofs.Stepping.{halted, next_thread}
use Rattle.octet_replay.proofs.replayer.replay.Replay.next_thread.Goals as goal

pub returns-in_default-clause-none : goal.returns-in_default-clause-none
returns-in_default-clause-none c none = halted c.args.self.now c.requires (c.in_default.ensures.none refl)

pub returns-clause-some : goal.returns-clause-some
returns-clause-some c = next_thread c.args.self.now c.requires c.in-Some.thread c.in-Some.ensures.some
