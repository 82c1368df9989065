use Rattle.std.proofs.Common.{rules, refl}
use Rattle.octet_rule.proofs.Acting.{reads}
use Rattle.octet_rule.proofs.Known.{grows, few_after}
use Rattle.octet_rule.proofs.words.Words.read.Goals as goal

pub load-value-requires : goal.load-value-requires
load-value-requires c = (search rules, search rules, reads _ _ _ _ _ (search rules) _ c.args.object c.requires.can.owes_nothing c.requires.phase (search rules) (search rules))

pub invariant_of-seat : goal.invariant_of-seat
invariant_of-seat c = let took = c.load-value.ensures.2.1 in let more = grows _ _ _ _ _ took refl in let few = few_after _ _ _ _ took in search rules
