use Rattle.std.proofs.Common.{rules}
use Rattle.octet_rule.proofs.Acting.{looks}
use Rattle.octet_rule.proofs.Known.{looked_done, few_after}
use Rattle.octet_rule.proofs.words.Words.look.Goals as goal

pub load-word-requires : goal.load-word-requires
load-word-requires c = (search rules, search rules, looks _ _ _ _ _ (search rules) _ c.args.whom c.requires.can.owes_nothing c.requires.phase (search rules))

pub invariant_of-seat : goal.invariant_of-seat
invariant_of-seat c = let took = c.load-word.ensures.2.1 in let done = looked_done _ _ _ _ took (search rules) in let few = few_after _ _ _ _ took in search rules
