use Rattle.std.proofs.Common.{refl}
use Rattle.octet_replay.proofs.Stepping.{halted}
use Rattle.octet_replay.proofs.replayer.replay.Replay.run.Goals as goal

pub returns-clause-halted : goal.returns-clause-halted
returns-clause-halted c = halted c.loop-thread.self c.loop-thread.invariant.at (c.in_default.ensures.none refl)
