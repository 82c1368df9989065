use Rattle.std.proofs.Common.{Ok}
use Rattle.octet_commands.proofs.lemmas.Found.{script_read}
use Rattle.octet_commands.proofs.without_runtime.of_script.Goals as goal

pub returns : goal.returns
returns g c = script_read c.args.script.now _ _ c.in_ok-source.source (Ok c.in_ok-tidy.field-0) c.in_ok-source.ensures.ends c.in_ok-source.ensures.calls c.in_ok-tidy.ensures
