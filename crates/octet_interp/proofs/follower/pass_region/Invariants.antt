use Rattle.std.proofs.Common.{◌≡◌, ◌+◌, ◌≤◌}
use Rattle.octet_model.specs.Thread.{settled}
use Rattle.octet_interp.specs.Context.{configuration_of}
use Rattle.octet_interp.specs.Following.{places_ahead}
use Rattle.octet_interp.proofs.follower.pass_region.Given as goal

abbrev pub invariant-loop-context : goal.invariant-loop-context
invariant-loop-context l = record {
  ahead : places_ahead l.commands (configuration_of l.context) ≡ places_ahead l.commands (configuration_of l.fn.context);
  settles : settled l.commands (configuration_of l.context) ≡ settled l.commands (configuration_of l.fn.context);
  regions : l.context.regions ≡ l.fn.context.regions;
  few : l.context.regions + l.context.fuel ≤ l.fn.context.regions + l.fn.context.fuel;
}

abbrev pub decreases-loop-context : goal.decreases-loop-context
decreases-loop-context l = l.context.fuel
