use Rattle.std.proofs.Common.{rules}
use Rattle.octet_parallel.proofs.steps.Allowed.{writes}
use Rattle.octet_parallel.proofs.words.Words.write.Goals as goal

pub swap-requires : goal.swap-requires
swap-requires c = (search rules, search rules, writes _ _ _ _ _ (search rules) _ c.args.object c.args.value c.requires.free c.requires.next (search rules))
