use Rattle.std.proofs.Common.{◌≡◌, map}
use Rattle.octet_machine.proofs.results.events_of.Given as goal

abbrev pub invariant-loop-journal : goal.invariant-loop-journal
invariant-loop-journal l = l.lists.items ≡ map (λ j. j.events.items) l.yielded
