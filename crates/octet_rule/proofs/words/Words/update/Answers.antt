use Rattle.std.proofs.Common.{rules, refl}
use Rattle.octet_rule.proofs.Known.{grows, few_after}
use Rattle.octet_rule.proofs.words.Words.update.Goals as goal

pub invariant_of-seat : goal.invariant_of-seat
invariant_of-seat c = let took = c.change_cell-before.ensures.step in let more = grows _ _ _ _ _ took refl in let few = few_after _ _ _ _ took in search rules
