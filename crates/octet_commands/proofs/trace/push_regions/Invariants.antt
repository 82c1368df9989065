use Rattle.std.proofs.Common.{◌≡◌, ◌+◌, ◌++◌, length}
use Rattle.octet_model.specs.Thread.{settled}
use Rattle.octet_interp.specs.Following.{places_ahead}
use Rattle.octet_commands.specs.TraceTexts.{region_lines}
use Rattle.octet_commands.proofs.trace.push_regions.Given as goal

abbrev pub invariant-loop-command : goal.invariant-loop-command
invariant-loop-command l = record {
  told : l.out.items ++ region_lines l.lines l.place (l.fn.follower.regions + length (places_ahead l.fn.follower.commands l.fn.follower.at)) (places_ahead l.follower.commands l.follower.at)
      ≡ l.fn.out.items ++ region_lines l.lines l.place (l.fn.follower.regions + length (places_ahead l.fn.follower.commands l.fn.follower.at)) (places_ahead l.fn.follower.commands l.fn.follower.at);
  counts : l.follower.regions + length (places_ahead l.follower.commands l.follower.at) ≡ l.fn.follower.regions + length (places_ahead l.fn.follower.commands l.fn.follower.at);
  settles : settled l.follower.commands l.follower.at ≡ settled l.fn.follower.commands l.fn.follower.at;
  commands : l.follower.commands ≡ l.fn.follower.commands;
}

abbrev pub decreases-loop-command : goal.decreases-loop-command
decreases-loop-command l = length (places_ahead l.follower.commands l.follower.at)
