use Rattle.std.proofs.Common.{rules}
use Rattle.octet_rule.proofs.Acting.{shares}
use Rattle.octet_rule.proofs.Known.{shared_grows, share_lost, few_after}
use Rattle.octet_rule.proofs.words.Words.share.Goals as goal

pub compare_exchange-found-requires : goal.compare_exchange-found-requires
compare_exchange-found-requires c = (search rules, search rules, shares _ _ _ _ _ (search rules) _ _ _ c.args.object c.requires.can.owes_nothing c.requires.phase c.requires.shares (search rules) (search rules) (search rules))

pub invariant_of-seat : goal.invariant_of-seat
invariant_of-seat c = let took = c.compare_exchange-found.ensures.2.1 in let more = shared_grows c.args.object _ _ _ took (search rules) c.requires.shares in let few = few_after _ _ _ _ took in search rules

pub invariant_of-seat-else-found-seen : goal.invariant_of-seat-else-found-seen
invariant_of-seat-else-found-seen c = let took = c.compare_exchange-found.ensures.2.1 in let is = share_lost _ _ _ _ _ took c.requires.phase (search rules) in search rules
