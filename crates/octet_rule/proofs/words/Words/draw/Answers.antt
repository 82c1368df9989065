use Rattle.std.proofs.Common.{rules, refl, arith}
use Rattle.octet_rule.proofs.Acting.{draws}
use Rattle.octet_rule.proofs.Known.{grows, few_after, few_drawn}
use Rattle.octet_rule.proofs.words.Words.draw.Goals as goal

pub fetch_add-last-requires : goal.fetch_add-last-requires
fetch_add-last-requires c = (search rules, search rules, draws _ _ _ _ _ (search rules) c.requires.can.owes_nothing c.requires.phase)

pub overflow_add-number : goal.overflow_add-number
overflow_add-number c = let few = few_drawn _ _ _ c.fetch_add-last.ensures.2.1 in omega arith

pub invariant_of-seat : goal.invariant_of-seat
invariant_of-seat c = let took = c.fetch_add-last.ensures.2.1 in let more = grows _ _ _ _ _ took refl in let few = few_after _ _ _ _ took in let draws = few_drawn _ _ _ took in search rules
