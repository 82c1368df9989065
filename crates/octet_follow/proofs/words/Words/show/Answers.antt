use Rattle.std.proofs.Common.{rules}
use Rattle.octet_follow.proofs.steps.Allowed.{shows}
use Rattle.octet_follow.proofs.words.Words.show.Goals as goal

pub store-requires : goal.store-requires
store-requires c = (search rules, search rules, shows _ _ _ _ _ (search rules) _ c.args.events c.requires.events (search rules))
