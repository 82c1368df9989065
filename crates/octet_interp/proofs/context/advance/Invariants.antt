use Rattle.std.proofs.Common.{◌≡◌, ◌+◌, ◌≤◌}
use Rattle.octet_interp.specs.Context.{configuration_of}
use Rattle.octet_interp.specs.Regions.{regions_to}
use Rattle.octet_interp.specs.Demands.{at_demand, is_demand}
use Rattle.octet_interp.proofs.context.advance.Given as goal

abbrev pub invariant-loop-context : goal.invariant-loop-context
invariant-loop-context l = record {
  arrives : at_demand l.commands (configuration_of l.context) ≡ at_demand l.commands (configuration_of l.fn.context);
  fuel : l.context.fuel ≤ l.fn.context.fuel;
  regions : l.context.regions + regions_to is_demand l.commands l.context.fuel (configuration_of l.context) ≡ l.fn.context.regions + regions_to is_demand l.commands l.fn.context.fuel (configuration_of l.fn.context);
  few : l.context.regions + l.context.fuel ≤ l.fn.context.regions + l.fn.context.fuel;
}

abbrev pub decreases-loop-context : goal.decreases-loop-context
decreases-loop-context l = l.context.fuel
