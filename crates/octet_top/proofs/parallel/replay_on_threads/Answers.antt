use Rattle.std.proofs.lemmas.Result.{err_from_is_err_and}
use Rattle.octet_commands.proofs.lemmas.Found.{parallel_read, parallel_stop}
use Rattle.octet_top.proofs.parallel.replay_on_threads.Goals as goal

pub returns : goal.returns
returns g c = parallel_read c.args.script.now c.args.log.now _ _ c.in_ok-pair.pair _ c.in_ok-pair.ensures.taken c.play_pair.ensures

pub returns-in_err-pair : goal.returns-in_err-pair
returns-in_err-pair g c =
    let p = err_from_is_err_and c.from_residual.result c.from_residual.ensures.1 in
    rw (p.1, p.2) (parallel_stop c.args.script.now c.args.log.now _ _ c.in_err-pair.field-0.0 c.in_err-pair.ensures.taken)
