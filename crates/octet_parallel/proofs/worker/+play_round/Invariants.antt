use Rattle.std.proofs.Common.{length}
use Rattle.octet_parallel.proofs.worker.+play_round.Given as goal

abbrev pub decreases-play_round : goal.decreases-play_round
decreases-play_round g l = length l.players.now
