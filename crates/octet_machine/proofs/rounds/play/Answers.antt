use Rattle.std.proofs.Common.{◌≡◌, IfOk, subst}
use Rattle.octet_model.specs.declared.script.Script.{Script}
use Rattle.octet_model.specs.Orders.{IsFaithful}
use Rattle.octet_machine.proofs.running.ManyTurns.{same_script, is_played}
use Rattle.octet_machine.proofs.rounds.play.Goals as goal

pub returns-clause-played : goal.returns-clause-played
returns-clause-played g c =
    is_played c.args.script.now c.args.picks.now c.in_ok-machine.machine c.take_picks.new.machine c.take_rounds.new.machine c.in_ok-machine.ensures.state c.take_picks.ensures
    c.take_rounds.ensures.rounds c.finish.result c.finish.ensures.log c.finish.ensures.outcome

pub returns-clause-faithful : goal.returns-clause-faithful
returns-clause-faithful g c =
    subst (λ (s : Script). IfOk c.finish.result (λ r. IsFaithful s r.log.threads r.outcome))
    (same_script c.args.script.now c.args.picks.now c.in_ok-machine.machine c.take_picks.new.machine c.take_rounds.new.machine c.in_ok-machine.ensures.state c.take_picks.ensures c.take_rounds.ensures.script) c.finish.ensures.faithful
