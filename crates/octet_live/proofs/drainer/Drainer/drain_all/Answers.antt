use Rattle.std.proofs.Common.{rules, ◌∙◌}
use Rattle.octet_live.proofs.Drained.{drain_nothing, drains_on}
use Rattle.octet_live.proofs.drainer.Drainer.drain_all.Goals as goal

pub loop-init : goal.loop-init
loop-init g c = record { drains = drain_nothing c.args.threads c.args.self.now (g.D.Desk.state c.args.desk.now); begun = search rules }

pub returns-then-is_last-clause-drains : goal.returns-then-is_last-clause-drains
returns-then-is_last-clause-drains g c =
    drains_on c.args.threads c.args.self.now c.loop.self c.add_round.new.self _ _ _ c.loop.invariant.drains c.add_round.ensures.drains

pub loop-preserved : goal.loop-preserved
loop-preserved g c = record {
  drains = drains_on c.args.threads c.args.self.now c.loop.self c.add_round.new.self _ _ _ c.loop.invariant.drains c.add_round.ensures.drains;
  begun = c.add_round.ensures.begun ∙ c.loop.invariant.begun;
}
