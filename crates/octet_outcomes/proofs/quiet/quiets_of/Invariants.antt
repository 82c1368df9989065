use Rattle.std.proofs.Common.{◌≡◌, length}
use Rattle.octet_outcomes.specs.Quiets.{AreQuiet}
use Rattle.octet_outcomes.proofs.quiet.quiets_of.Given as goal

abbrev pub invariant-loop-object : goal.invariant-loop-object
invariant-loop-object l = record {
  len : length l.quiets.items ≡ l.object;
  are : AreQuiet l.commands l.quiets.items;
}
