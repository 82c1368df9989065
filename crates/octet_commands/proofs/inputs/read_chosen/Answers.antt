use Rattle.std.proofs.Common.{◌≡◌, ℕ, Option, Ok, Err, Result}
use Rattle.std.proofs.lemmas.Result.{err_from_is_err_and}
use Rattle.octet_commands.specs.declared.inputs.Source.{Source}
use Rattle.octet_commands.specs.Answer.{Answer}
use Rattle.octet_commands.specs.Request.{name_in}
use Rattle.octet_commands.specs.Inputs.{◌>>=◌, IsChosen, IsScriptRead}
use Rattle.octet_commands.proofs.lemmas.Steps.{comes_stop, ends_then}
use Rattle.octet_commands.proofs.inputs.read_chosen.Goals as goal

pub returns-in_err-wanted-clause-ends : goal.returns-in_err-wanted-clause-ends
returns-in_err-wanted-clause-ends g c =
    let p = err_from_is_err_and c.from_residual-in_err-wanted.result c.from_residual-in_err-wanted.ensures.1 in
    let before = g.D.Desk.state c.args.desk.now in
    let source = c.in_ok-source.source in
    let stop = c.in_err-wanted.field-0.0 in
    let Last : Option ℕ → Result (Source × Option ℕ) Answer → Type 0 = λ wanted read. read ≡ Ok (source, wanted) in
    let Next : Source → Result (Source × Option ℕ) Answer → Type 0 = λ source. IsChosen source.script (name_in c.args.object_name) >>= λ wanted read. read ≡ Ok (source, wanted) in
    let chosen = IsChosen source.script (name_in c.args.object_name) in
    rw (p.1, p.2) (ends_then (IsScriptRead c.args.script_name.now before.contents) Next _ _ source (Err stop) c.in_ok-source.ensures.ends (comes_stop chosen Last stop c.in_err-wanted.ensures))
