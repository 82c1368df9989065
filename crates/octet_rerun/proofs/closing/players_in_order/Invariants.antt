use Rattle.std.proofs.Common.{◌≡◌}
use Rattle.octet_rerun.specs.Reruns.{players_of}
use Rattle.octet_rerun.proofs.closing.players_in_order.Given as goal

abbrev pub invariant-loop-follower : goal.invariant-loop-follower
invariant-loop-follower l = record { players : l.players ≡ players_of l.yielded }
