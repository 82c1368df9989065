use Rattle.octet_parallel.proofs.lemmas.Players.{all_same, still_same}
use Rattle.octet_parallel.proofs.worker.play_all.Goals as goal

pub loop-init : goal.loop-init
loop-init g c = (tt, tt, c.requires, all_same c.args.players.now)

pub returns-then-play_rounds-clause-same : goal.returns-then-play_rounds-clause-same
returns-then-play_rounds-clause-same g c = still_same _ _ _ c.loop.invariant.3 (still_same _ _ _ c.play_beside.ensures.same c.play_rounds.ensures.same)

pub loop-preserved : goal.loop-preserved
loop-preserved g c = (tt, tt, c.play_rounds.ensures.own, still_same _ _ _ c.loop.invariant.3 (still_same _ _ _ c.play_beside.ensures.same c.play_rounds.ensures.same))
