use Rattle.std.proofs.Common.{◌≡◌, ◌≤◌, [], map, replicate, vec_capacity, All}
use Rattle.octet_machine.proofs.memory.empty_journals.Given as goal

abbrev pub invariant-loop-made : goal.invariant-loop-made
invariant-loop-made l = record {
  items : map (λ j. j.events.items) l.journals.items ≡ replicate l._made [];
  rooms : All (λ j. l.room ≤ vec_capacity j.events) l.journals.items;
}
