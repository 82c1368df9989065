use Rattle.std.proofs.Common.{rules}
use Rattle.octet_parallel.proofs.steps.Allowed.{bumps}
use Rattle.octet_parallel.proofs.words.Words.bump.Goals as goal

pub fetch_add-requires : goal.fetch_add-requires
fetch_add-requires c = (search rules, search rules, bumps _ _ _ _ _ (search rules) _ c.args.object c.args.amount c.requires.free c.requires.next (search rules))
