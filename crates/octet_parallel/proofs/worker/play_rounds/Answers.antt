use Rattle.octet_parallel.proofs.lemmas.Players.{all_same, still_same}
use Rattle.octet_parallel.proofs.worker.play_rounds.Goals as goal

pub loop-init : goal.loop-init
loop-init g c = (c.requires, all_same c.args.players.now)

pub returns-then-play_round-clause-same : goal.returns-then-play_round-clause-same
returns-then-play_round-clause-same g c = still_same _ _ _ c.loop.invariant.1 c.play_round.ensures.same

pub loop-preserved : goal.loop-preserved
loop-preserved g c = (c.play_round.ensures.own, still_same _ _ _ c.loop.invariant.1 c.play_round.ensures.same)

pub returns-then-busy-rounds-clause-same : goal.returns-then-busy-rounds-clause-same
returns-then-busy-rounds-clause-same g c = still_same _ _ _ c.loop.invariant.1 c.play_round.ensures.same
