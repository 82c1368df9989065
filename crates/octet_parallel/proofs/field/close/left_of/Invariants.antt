use Rattle.std.proofs.Common.{◌≡◌, map}
use Rattle.octet_replay.specs.Threads.{values_of}
use Rattle.octet_parallel.proofs.field.close.left_of.Given as goal

abbrev pub invariant-loop-player : goal.invariant-loop-player
invariant-loop-player l = record {
  seats : l.seats.items ≡ map (λ player. player.seat) l.yielded;
  reads : l.reads ≡ map (λ player. values_of player.replay) l.yielded;
  journals : l.journals ≡ map (λ player. player.journal.items) l.yielded;
}
