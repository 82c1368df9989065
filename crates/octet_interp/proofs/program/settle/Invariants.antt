use Rattle.std.proofs.Common.{◌≡◌, ◌+◌, ◌≤◌}
use Rattle.octet_model.specs.Thread.{settled}
use Rattle.octet_interp.specs.Context.{configuration_of}
use Rattle.octet_interp.proofs.program.settle.Given as goal

abbrev pub invariant-loop-context : goal.invariant-loop-context
invariant-loop-context l = record {
  settles : settled l.commands (configuration_of l.context) ≡ settled l.commands (configuration_of l.fn.context);
  few : l.context.regions + l.context.fuel ≤ l.fn.context.regions + l.fn.context.fuel;
}

abbrev pub decreases-loop-context : goal.decreases-loop-context
decreases-loop-context l = l.context.fuel
