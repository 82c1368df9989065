use Rattle.std.proofs.Common.{◌≡◌, ◌≤◌, drop}
use Rattle.octet_model.specs.Thread.{end_from, matching_end}
use Rattle.octet_outcomes.proofs.closers.end_of.Given as goal

abbrev pub invariant-loop-at : goal.invariant-loop-at
invariant-loop-at l = record {
  few : l.depth ≤ l.at;
  end : end_from l.depth l.at (drop l.at l.commands) ≡ matching_end l.commands l.place;
}
