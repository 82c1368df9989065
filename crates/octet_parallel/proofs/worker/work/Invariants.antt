use Rattle.octet_parallel.specs.Calls.{IsPlayerOf}
use Rattle.octet_parallel.specs.Judging.{IsSamePlayer}
use Rattle.octet_parallel.proofs.worker.work.Given as goal

abbrev pub invariant-loop : goal.invariant-loop
invariant-loop g l =
    (goal.iterator-loop g).can_next l.iterator' × (goal.iterator-loop g).is_finite l.iterator' × IsPlayerOf l.field l.player × IsSamePlayer l.initial.player l.player
