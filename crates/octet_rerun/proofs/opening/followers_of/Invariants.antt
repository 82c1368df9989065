use Rattle.std.proofs.Common.{◌≡◌, ◌+◌, ◌≤◌, length}
use Rattle.octet_model.specs.declared.limits.TheConstants.{MAX_THREADS}
use Rattle.octet_rerun.specs.Reruns.{players_of, ArePlain}
use Rattle.octet_rerun.proofs.opening.followers_of.Given as goal

abbrev pub invariant-loop-player : goal.invariant-loop-player
invariant-loop-player l = record {
  players : players_of l.followers.items ≡ l.yielded;
  plain : ArePlain 0 l.followers.items;
  many : length l.followers.items ≡ l.thread;
  left : l.thread + length l.player-iterator.rest.items ≤ MAX_THREADS;
}
