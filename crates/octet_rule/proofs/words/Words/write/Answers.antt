use Rattle.std.proofs.Common.{rules, refl}
use Rattle.octet_rule.proofs.Acting.{writes}
use Rattle.octet_rule.proofs.Known.{grows, few_after}
use Rattle.octet_rule.proofs.words.Words.write.Goals as goal

pub store-requires : goal.store-requires
store-requires c = (search rules, search rules, writes _ _ _ _ _ (search rules) _ c.args.object c.args.value c.requires.can.owes_nothing c.requires.phase (search rules) (search rules))

pub invariant_of-seat : goal.invariant_of-seat
invariant_of-seat c = let took = c.store.ensures.2.1 in let more = grows _ _ _ _ _ took refl in let few = few_after _ _ _ _ took in search rules
