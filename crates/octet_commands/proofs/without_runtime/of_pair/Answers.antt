use Rattle.std.proofs.lemmas.Result.{err_from_is_err_and}
use Rattle.octet_commands.specs.Request.{name_in}
use Rattle.octet_commands.proofs.lemmas.Found.{both_read, both_stop}
use Rattle.octet_commands.proofs.without_runtime.of_pair.Goals as goal

pub returns : goal.returns
returns g c = both_read c.args.task c.args.script.now c.args.log.now (name_in c.args.object) _ _ c.in_ok-pair.pair _ c.in_ok-pair.ensures.taken c.replay_pair.ensures

pub returns-in_err-pair : goal.returns-in_err-pair
returns-in_err-pair g c =
    let p = err_from_is_err_and c.from_residual.result c.from_residual.ensures.1 in
    rw (p.1, p.2) (both_stop c.args.task c.args.script.now c.args.log.now (name_in c.args.object) _ _ c.in_err-pair.field-0.0 c.in_err-pair.ensures.taken)
