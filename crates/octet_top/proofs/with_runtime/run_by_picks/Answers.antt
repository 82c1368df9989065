use Rattle.std.proofs.Common.{Ok, refl}
use Rattle.octet_model.specs.Texts.{log_bytes}
use Rattle.octet_commands.specs.declared.request.Way.TheVariants.{ByPicks}
use Rattle.octet_commands.proofs.lemmas.Lengths.{first_file}
use Rattle.octet_commands.proofs.lemmas.Found.{run_read}
use Rattle.octet_commands.proofs.lemmas.Recorded.{recorded_short}
use Rattle.octet_top.proofs.with_runtime.run_by_picks.Goals as goal

pub returns : goal.returns
returns g c =
    let recorded = c.in_ok-recorded.recorded in
    let bytes = log_bytes recorded.log.threads in
    run_read (ByPicks c.args.picks.now) c.args.script.now c.args.log.now _ _ c.in_ok-source.source (Ok c.in_ok-say_recorded.field-0) c.in_ok-source.ensures.ends c.in_ok-source.ensures.calls
    (recorded.log, recorded.outcome, bytes, c.in_ok-recorded.ensures, first_file recorded.log bytes (recorded_short (ByPicks c.args.picks.now) c.in_ok-source.source.script recorded.log recorded.outcome c.in_ok-recorded.ensures) refl, c.in_ok-say_recorded.ensures)
