use Rattle.std.proofs.Common.{rules, refl}
use Rattle.octet_rule.proofs.Acting.{bumps}
use Rattle.octet_rule.proofs.Known.{grows, few_after}
use Rattle.octet_rule.proofs.words.Words.bump.Goals as goal

pub fetch_add-before-requires : goal.fetch_add-before-requires
fetch_add-before-requires c = (search rules, search rules, bumps _ _ _ _ _ (search rules) _ c.args.object _ c.requires.can.owes_nothing c.requires.phase (search rules) (search rules))

pub invariant_of-seat : goal.invariant_of-seat
invariant_of-seat c = let took = c.fetch_add-before.ensures.2.1 in let more = grows _ _ _ _ _ took refl in let few = few_after _ _ _ _ took in search rules
