use Rattle.std.proofs.Common.{ℕ, List, inr, subst}
use Rattle.std.proofs.lemmas.Result.{err_from_is_err_and}
use Rattle.octet_replay.specs.Fit.{IsOfScript, IsOfAnother}
use Rattle.octet_commands.proofs.inputs.read_fitting.Goals as goal

pub returns-in-Ok-clause-taken : goal.returns-in-Ok-clause-taken
returns-in-Ok-clause-taken g c =
    (record { ends = c.in_ok-pair.ensures.ends; calls = c.in_ok-pair.ensures.calls }, subst (λ (text : List ℕ). IsOfScript text c.in_ok-pair.pair.loaded.digest) c.as_slice.ensures c.in-Ok.ensures)

pub returns-in_ok-wrong_script-in-Err-clause-taken : goal.returns-in_ok-wrong_script-in-Err-clause-taken
returns-in_ok-wrong_script-in-Err-clause-taken g c =
    let other = subst (λ (text : List ℕ). IsOfAnother text c.in_ok-pair.pair.loaded.digest c.in-Err.fault) c.as_slice.ensures c.in-Err.ensures in
    inr (c.in_ok-pair.pair, c.in-Err.fault, record { ends = c.in_ok-pair.ensures.ends; calls = c.in_ok-pair.ensures.calls }, other, c.in_ok-wrong_script-in-Err.ensures)

pub returns-in_err-wrong_script-in-Err-clause-taken : goal.returns-in_err-wrong_script-in-Err-clause-taken
returns-in_err-wrong_script-in-Err-clause-taken g c =
    let p = err_from_is_err_and c.from_residual-in_err-wrong_script-in-Err.result c.from_residual-in_err-wrong_script-in-Err.ensures.1 in
    let other = subst (λ (text : List ℕ). IsOfAnother text c.in_ok-pair.pair.loaded.digest c.in-Err.fault) c.as_slice.ensures c.in-Err.ensures in
    rw (p.1, p.2) (inr (c.in_ok-pair.pair, c.in-Err.fault, record { ends = c.in_ok-pair.ensures.ends; calls = c.in_ok-pair.ensures.calls }, other, tt))
