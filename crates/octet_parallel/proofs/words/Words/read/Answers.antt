use Rattle.std.proofs.Common.{rules}
use Rattle.octet_parallel.proofs.steps.Allowed.{reads}
use Rattle.octet_parallel.proofs.words.Words.read.Goals as goal

pub load-requires : goal.load-requires
load-requires c = (search rules, search rules, reads _ _ _ _ _ (search rules) _ c.args.object c.requires.free c.requires.next (search rules))
