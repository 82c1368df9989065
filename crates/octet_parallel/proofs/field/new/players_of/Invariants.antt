use Rattle.std.proofs.Common.{◌≡◌, ◌+◌, length}
use Rattle.octet_parallel.specs.Calls.{ArePlayersAt}
use Rattle.octet_parallel.proofs.field.new.players_of.Given as goal

abbrev pub invariant-loop-seat : goal.invariant-loop-seat
invariant-loop-seat l = record {
  left : l.number + length l.seat-iterator.rest.items ≡ length l.log.threads;
  count : length l.yielded ≡ l.number;
  players : ArePlayersAt l.script l.log.threads 0 l.yielded l.players.items;
}
