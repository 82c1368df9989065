use Rattle.std.proofs.Common.{◌≡◌}
use Rattle.octet_parallel.specs.Calls.{view_of, IsPlayerOf}
use Rattle.octet_tests.proofs.field_tests.steps_to.Given as goal

abbrev pub invariant-loop-step : goal.invariant-loop-step
invariant-loop-step l = IsPlayerOf l.field l.player × ((view_of l.player).number ≡ (view_of l.initial.player).number)
