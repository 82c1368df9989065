use Rattle.std.proofs.Common.{rules}
use Rattle.octet_parallel.specs.declared.fate.Fate.TheVariants.{Stopped}
use Rattle.octet_parallel.specs.Rule.{stop_found}
use Rattle.octet_parallel.proofs.steps.Allowed.{stops}
use Rattle.octet_parallel.proofs.words.Words.stop.Goals as goal

pub store-requires : goal.store-requires
store-requires c = (search rules, search rules, stops _ _ _ _ _ (search rules) _ (Stopped (stop_found c.args.seat.now.inner.me.0)) c.requires.free c.requires.why (search rules))
