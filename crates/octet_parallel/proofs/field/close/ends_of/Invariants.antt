use Rattle.std.proofs.Common.{◌≡◌, map, take}
use Rattle.octet_replay.specs.Threads.{end_told}
use Rattle.octet_parallel.proofs.field.close.ends_of.Given as goal

abbrev pub invariant-loop-player : goal.invariant-loop-player
invariant-loop-player l = l.ends ≡ map (λ player. end_told player.replay) (take l.player-index l.players)
