use Rattle.std.proofs.Common.{rules}
use Rattle.octet_rule.proofs.Acting.{asks}
use Rattle.octet_rule.proofs.Known.{asked_done, few_after, one_bit}
use Rattle.octet_rule.proofs.words.Words.ask.Goals as goal

pub fetch_or-word-requires : goal.fetch_or-word-requires
fetch_or-word-requires c = (search rules, search rules, asks _ _ _ _ _ (search rules) _ _ c.args.whom c.requires.can.owes_nothing c.requires.phase (search rules) (one_bit c.args.seat.now.thread c.args.seat.now.inner.me.0.number (search rules) (search rules)))

pub invariant_of-seat : goal.invariant_of-seat
invariant_of-seat c = let took = c.fetch_or-word.ensures.2.1 in let done = asked_done _ _ _ _ took (search rules) in let few = few_after _ _ _ _ took in search rules
