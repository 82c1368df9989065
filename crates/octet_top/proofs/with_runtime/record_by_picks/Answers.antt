use Rattle.std.proofs.Common.{◌∙◌}
use Rattle.octet_commands.proofs.lemmas.Recorded.{recorded_by_picks}
use Rattle.octet_top.proofs.with_runtime.record_by_picks.Goals as goal

pub returns : goal.returns
returns g c = recorded_by_picks c.args.picks.now c.deref.result.now c.args.script.now c.play.result (c.deref.ensures.value ∙ c.in_ok-picks_of.ensures) c.play.ensures.played c.play.ensures.faithful
