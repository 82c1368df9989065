use Rattle.std.proofs.Common.{Ok}
use Rattle.octet_commands.proofs.lemmas.Found.{log_read}
use Rattle.octet_commands.proofs.without_runtime.of_log.Goals as goal

pub returns : goal.returns
returns g c = log_read c.args.log.now _ _ c.in_ok-loaded.loaded (Ok c.in_ok-show.field-0) c.in_ok-loaded.ensures.ends c.in_ok-loaded.ensures.calls c.in_ok-show.ensures
