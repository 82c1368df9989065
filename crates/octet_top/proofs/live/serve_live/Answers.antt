use Rattle.std.proofs.Common.{Err, inl, inr}
use Rattle.octet_model.specs.declared.limits.TheConstants.{MAX_SCRIPT_FILE}
use Rattle.octet_commands.specs.Answer.{given_reply}
use Rattle.octet_commands.specs.Inputs.{IsScriptRead}
use Rattle.octet_commands.specs.declared.request.Way.TheVariants.{AsTheyCome}
use Rattle.octet_commands.proofs.lemmas.Found.{run_stops, is_short}
use Rattle.octet_commands.proofs.lemmas.Rows.{script_refused}
use Rattle.octet_commands.proofs.lemmas.Steps.{was_taken}
use Rattle.octet_top.proofs.live.serve_live.Goals as goal

pub returns-in-Ok : goal.returns-in-Ok
returns-in-Ok g c =
    let state = g.D.Desk.state in
    let taken = was_taken c.args.script.now MAX_SCRIPT_FILE c.in-Ok.source (state c.args.desk.now) (state c.read_script.new.desk) c.in-Ok.ensures.calls in
    inr (record {
      source = c.in-Ok.source;
      read = c.in-Ok.ensures.ends.0;
      bytes = taken.0;
      mid = state c.read_script.new.desk;
      taken = taken.1;
      made = c.write_live-written.result;
      written = c.write_live-written.ensures;
      code_is = c.code_given.ensures;
    })

pub returns-in-Err : goal.returns-in-Err
returns-in-Err g c =
    let state = g.D.Desk.state in
    let before = state c.args.desk.now in
    inl (
      record {
        mid = state c.read_script.new.desk;
        reply = given_reply (Err c.in-Err.refused);
        found = run_stops AsTheyCome c.args.script.now c.args.log.now before (state c.read_script.new.desk) c.in-Err.refused c.in-Err.ensures.ends c.in-Err.ensures.calls;
        given = c.deliver.ensures;
      },
      is_short (IsScriptRead c.args.script.now before.contents) (script_refused c.args.script.now before.contents) _ _ c.in-Err.refused c.in-Err.ensures.ends,
    )
