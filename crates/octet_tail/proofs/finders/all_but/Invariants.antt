use Rattle.std.proofs.Common.{◌≡◌, ◌++◌, drop}
use Rattle.octet_tail.specs.Between.{all_but}
use Rattle.octet_tail.proofs.finders.all_but.Given as goal

abbrev pub invariant-loop-many : goal.invariant-loop-many
invariant-loop-many l = l.asked.items ++ all_but l.last (drop l.many-index l.made) ≡ all_but l.last l.made
