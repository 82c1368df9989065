use Rattle.std.proofs.Common.{rules}
use Rattle.octet_follow.proofs.steps.Allowed.{draws}
use Rattle.octet_follow.proofs.words.Words.draw.Goals as goal

pub compare_exchange-requires : goal.compare_exchange-requires
compare_exchange-requires c = (search rules, search rules, draws _ _ _ _ _ (search rules) _ c.args.before c.args.number c.requires.next (search rules))
