use Rattle.std.proofs.Common.{rules}
use Rattle.octet_follow.proofs.steps.Allowed.{looks_at_draws}
use Rattle.octet_follow.proofs.words.Words.look_at_draws.Goals as goal

pub load-requires : goal.load-requires
load-requires c = (search rules, search rules, looks_at_draws _ _ _ _ _ (search rules) _ (search rules))
