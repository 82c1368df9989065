use Rattle.std.proofs.Common.{All}
use Rattle.std.specs.List.{AllZip}
use Rattle.octet_parallel.specs.Calls.{IsPlayerOf}
use Rattle.octet_parallel.specs.Judging.{IsSamePlayer}
use Rattle.octet_parallel.proofs.worker.play_all.Given as goal

abbrev pub invariant-loop : goal.invariant-loop
invariant-loop g l =
    (goal.iterator-loop g).can_next l.iterator' × (goal.iterator-loop g).is_finite l.iterator' × All (IsPlayerOf l.field) l.players × AllZip IsSamePlayer l.initial.players l.players
