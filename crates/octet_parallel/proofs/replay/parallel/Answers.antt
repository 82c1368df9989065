use Rattle.octet_parallel.proofs.replay.parallel.Goals as goal

pub replay_apart-requires-clause-apart : goal.replay_apart-requires-clause-apart
replay_apart-requires-clause-apart g c κs within = c.in_ok-are_apart.ensures.0 c.if-branch.true
