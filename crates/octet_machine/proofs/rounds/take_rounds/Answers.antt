use Rattle.std.proofs.Common.{sym, ◌∙◌}
use Rattle.octet_machine.proofs.running.ManyTurns.{one_round}
use Rattle.octet_machine.proofs.rounds.take_rounds.Goals as goal

pub loop-preserved : goal.loop-preserved
loop-preserved g c = record {
  underway = one_round c.args.machine.now c.loop.machine c.take_round.new.machine c.loop.invariant.underway (sym c.ended.ensures.all ∙ c.if-ended.false) c.take_round.ensures.state;
  script = c.take_round.ensures.script ∙ c.loop.invariant.script;
}
