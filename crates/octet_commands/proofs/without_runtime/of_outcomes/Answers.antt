use Rattle.std.proofs.Common.{Ok}
use Rattle.octet_commands.proofs.lemmas.Found.{outcomes_read}
use Rattle.octet_commands.proofs.without_runtime.of_outcomes.Goals as goal

pub returns : goal.returns
returns g c = outcomes_read c.args.script.now c.args.most _ _ c.in_ok-source.source (Ok c.in_ok-outcomes.field-0) c.in_ok-source.ensures.ends c.in_ok-source.ensures.calls c.in_ok-outcomes.ensures
