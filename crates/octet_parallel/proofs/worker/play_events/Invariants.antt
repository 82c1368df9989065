use Rattle.octet_parallel.specs.Calls.{IsPlayerOf}
use Rattle.octet_parallel.specs.Judging.{IsSamePlayer}
use Rattle.octet_parallel.proofs.worker.play_events.Given as goal

abbrev pub invariant-loop : goal.invariant-loop
invariant-loop g l = IsPlayerOf l.field l.player × IsSamePlayer l.initial.player l.player
