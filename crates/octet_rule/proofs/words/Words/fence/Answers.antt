use Rattle.std.proofs.Common.{rules, refl}
use Rattle.octet_rule.proofs.Acting.{fences}
use Rattle.octet_rule.proofs.Known.{grows, few_after}
use Rattle.octet_rule.proofs.words.Words.fence.Goals as goal

pub load-last-requires : goal.load-last-requires
load-last-requires c = (search rules, search rules, fences _ _ _ _ _ (search rules) c.requires.can.owes_nothing c.requires.phase)

pub invariant_of-seat : goal.invariant_of-seat
invariant_of-seat c = let took = c.load-last.ensures.2.1 in let more = grows _ _ _ _ _ took refl in let few = few_after _ _ _ _ took in search rules
