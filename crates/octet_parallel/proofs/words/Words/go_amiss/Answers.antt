use Rattle.std.proofs.Common.{rules}
use Rattle.octet_parallel.specs.declared.fate.Fate.TheVariants.{Amiss}
use Rattle.octet_parallel.proofs.steps.Allowed.{stops}
use Rattle.octet_parallel.proofs.words.Words.go_amiss.Goals as goal

pub store-requires : goal.store-requires
store-requires c = (search rules, search rules, stops _ _ _ _ _ (search rules) _ Amiss c.requires.free c.requires.why (search rules))
