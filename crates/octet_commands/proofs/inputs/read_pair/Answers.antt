use Rattle.octet_model.specs.declared.limits.TheConstants.{MAX_SCRIPT_FILE}
use Rattle.std.proofs.Common.{◌≡◌, ◌∙◌, ℕ, Option, Ok, Err, Result, refl, inl}
use Rattle.std.proofs.lemmas.Result.{err_from_is_err_and}
use Rattle.octet_log.specs.declared.loader.Loaded.{Loaded}
use Rattle.octet_commands.specs.declared.inputs.Source.{Source}
use Rattle.octet_commands.specs.declared.inputs.Pair.{Pair}
use Rattle.octet_commands.specs.Answer.{Answer}
use Rattle.octet_commands.specs.Request.{name_in}
use Rattle.octet_commands.specs.Inputs.{◌>>=◌, IsLogRead, IsScriptChosen}
use Rattle.octet_commands.proofs.lemmas.Steps.{ends_stop, ends_next, log_ends_before, was_taken}
use Rattle.octet_commands.proofs.inputs.read_pair.Goals as goal

pub returns-clause-ends : goal.returns-clause-ends
returns-clause-ends g c =
    let before = g.D.Desk.state c.args.desk.now in
    let mid = g.D.Desk.state c.read_chosen.new.desk in
    let chosen : Source × Option ℕ = (c.in_ok-source.source, c.in_ok-source.wanted) in
    let took = was_taken c.args.script_name.now MAX_SCRIPT_FILE chosen before mid c.in_ok-source.ensures.calls in
    let log = c.in_ok-loaded.loaded in (
      (chosen, c.in_ok-source.ensures.ends.0, (log, (log_ends_before c.args.log_name.now c.args.script_name.now took.0 before mid _ _ (Ok log) took.1 c.in_ok-loaded.ensures.ends).0, refl)),
      c.in_ok-loaded.ensures.ends.1 ∙ c.in_ok-source.ensures.ends.1,
    )

pub returns-clause-calls : goal.returns-clause-calls
returns-clause-calls g c =
    let chosen : Source × Option ℕ = (c.in_ok-source.source, c.in_ok-source.wanted) in
    let took = was_taken c.args.script_name.now MAX_SCRIPT_FILE chosen _ _ c.in_ok-source.ensures.calls in
    inl (took.0, g.D.Desk.state c.read_chosen.new.desk, took.1, (chosen, c.in_ok-source.ensures.ends.0), c.in_ok-loaded.ensures.calls)

pub returns-in_err-loaded-clause-ends : goal.returns-in_err-loaded-clause-ends
returns-in_err-loaded-clause-ends g c =
    let p = err_from_is_err_and c.from_residual-in_err-loaded.result c.from_residual-in_err-loaded.ensures.1 in
    let before = g.D.Desk.state c.args.desk.now in
    let mid = g.D.Desk.state c.read_chosen.new.desk in
    let after = g.D.Desk.state c.read_log.new.desk in
    let stop = c.in_err-loaded.field-0.0 in
    let log_name = c.args.log_name.now in
    let chosen : Source × Option ℕ = (c.in_ok-source.source, c.in_ok-source.wanted) in
    let took = was_taken c.args.script_name.now MAX_SCRIPT_FILE chosen before mid c.in_ok-source.ensures.calls in
    let Next : Source × Option ℕ → Result Pair Answer → Type 0 = λ chosen. IsLogRead log_name before.contents >>= λ loaded read. read ≡ Ok (record { source = chosen.0; wanted = chosen.1; loaded = loaded }) in
    let Last : Loaded → Result Pair Answer → Type 0 = λ loaded read. read ≡ Ok (record { source = chosen.0; wanted = chosen.1; loaded = loaded }) in
    rw (p.1, p.2)
    (ends_next (IsScriptChosen c.args.script_name.now (name_in c.args.object_name) before.contents) Next before.take_faults mid.take_faults after.take_faults chosen (Err stop) c.in_ok-source.ensures.ends
    (ends_stop (IsLogRead log_name before.contents) Last mid.take_faults after.take_faults stop
    (log_ends_before log_name c.args.script_name.now took.0 before mid mid.take_faults after.take_faults (Err stop) took.1 c.in_err-loaded.ensures.ends)))

pub returns-in_err-loaded-clause-calls : goal.returns-in_err-loaded-clause-calls
returns-in_err-loaded-clause-calls g c =
    let p = err_from_is_err_and c.from_residual-in_err-loaded.result c.from_residual-in_err-loaded.ensures.1 in
    let chosen : Source × Option ℕ = (c.in_ok-source.source, c.in_ok-source.wanted) in
    let took = was_taken c.args.script_name.now MAX_SCRIPT_FILE chosen _ _ c.in_ok-source.ensures.calls in
    rw p.1 (inl (took.0, g.D.Desk.state c.read_chosen.new.desk, took.1, (chosen, c.in_ok-source.ensures.ends.0), c.in_err-loaded.ensures.calls))
