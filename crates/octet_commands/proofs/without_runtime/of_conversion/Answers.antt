use Rattle.std.proofs.lemmas.Result.{err_from_is_err_and}
use Rattle.octet_commands.proofs.lemmas.Found.{conversion_read, conversion_stop}
use Rattle.octet_commands.proofs.without_runtime.of_conversion.Goals as goal

pub returns : goal.returns
returns g c = conversion_read c.args.script.now c.args.log.now c.args.out.now _ _ c.in_ok-pair.pair _ c.in_ok-pair.ensures.taken c.convert.ensures

pub returns-in_err-pair : goal.returns-in_err-pair
returns-in_err-pair g c =
    let p = err_from_is_err_and c.from_residual.result c.from_residual.ensures.1 in
    rw (p.1, p.2) (conversion_stop c.args.script.now c.args.log.now c.args.out.now _ _ c.in_err-pair.field-0.0 c.in_err-pair.ensures.taken)
