use Rattle.std.proofs.Common.{rules}
use Rattle.octet_parallel.proofs.steps.Allowed.{marks}
use Rattle.octet_parallel.proofs.words.Words.mark.Goals as goal

pub store-requires : goal.store-requires
store-requires c = (search rules, search rules, marks _ _ _ _ _ (search rules) _ c.args.events c.requires.may.0 c.requires.may.1 c.requires.events (search rules))
