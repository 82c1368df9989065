use Rattle.std.proofs.Common.{◌≡◌, ◌+◌, false}
use Rattle.octet_model.specs.Thread.{settled}
use Rattle.octet_interp.specs.Regions.{regions_ahead}
use Rattle.octet_replay.proofs.thread.ask.Given as goal

abbrev pub invariant-loop-next : goal.invariant-loop-next
invariant-loop-next l = record {
  runs : l.config.commands ≡ l.fn.config.commands;
  has : l.config.objects ≡ l.fn.config.objects;
  asked : l.config.waits ≡ false;
  settles : settled l.fn.config.commands l.config.at ≡ settled l.fn.config.commands l.fn.config.at;
  counts : l.config.regions + regions_ahead l.config.commands l.config.at ≡ l.fn.config.regions + regions_ahead l.fn.config.commands l.fn.config.at;
}

abbrev pub decreases-loop-next : goal.decreases-loop-next
decreases-loop-next l = l.config.at.fuel
