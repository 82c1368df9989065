use Rattle.std.proofs.Common.{List, ℕ, Option, Ok, Err, subst}
use Rattle.std.proofs.lemmas.Result.{err_from_is_err_and}
use Rattle.octet_commands.specs.declared.inputs.Source.{Source}
use Rattle.octet_commands.specs.Request.{shown_claim}
use Rattle.octet_commands.specs.Inputs.{IsScriptChosen, Ends}
use Rattle.octet_commands.proofs.lemmas.Found.{always_read, always_stops}
use Rattle.octet_commands.proofs.without_runtime.of_always.Goals as goal

pub returns : goal.returns
returns g c =
    let before = g.D.Desk.state c.args.desk.now in
    let after = g.D.Desk.state c.read_chosen.new.desk in
    let chosen : Source × Option ℕ = (c.in_ok-source.source, c.in_ok-source.wanted) in
    always_read (shown_claim c.args.claim) c.args.script.now c.args.log.now c.args.most before after chosen (Ok c.in_ok-always.field-0)
    (subst (λ (name : Option (List ℕ)). Ends (IsScriptChosen c.args.script.now name before.contents) before.take_faults (Ok chosen) after.take_faults) c.name.ensures c.in_ok-source.ensures.ends)
    c.in_ok-source.ensures.calls c.in_ok-always.ensures

pub returns-in_err-source : goal.returns-in_err-source
returns-in_err-source g c =
    let p = err_from_is_err_and c.from_residual.result c.from_residual.ensures.1 in
    let before = g.D.Desk.state c.args.desk.now in
    let after = g.D.Desk.state c.read_chosen.new.desk in
    let stop = c.in_err-source.field-0.0 in
    rw (p.1, p.2)
    (always_stops (shown_claim c.args.claim) c.args.script.now c.args.log.now c.args.most before after stop
    (subst (λ (name : Option (List ℕ)). Ends (IsScriptChosen c.args.script.now name before.contents) before.take_faults (Err stop) after.take_faults) c.name.ensures c.in_err-source.ensures.ends)
    c.in_err-source.ensures.calls)
