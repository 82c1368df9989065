use Rattle.std.proofs.Common.{◌∙◌, arith}
use Rattle.octet_tail.proofs.Finding.{finder_round, round_open}
use Rattle.octet_tail.proofs.finder.FrontFinder.settle.Goals as goal

pub returns-then-not-branch-clause-finds : goal.returns-then-not-branch-clause-finds
returns-then-not-branch-clause-finds c = λ marks is. finder_round marks c.loop-round.self c.round.new.self c.in_ok-round.ensures.asked c.in_ok-round.ensures.round (c.loop-round.invariant.finds marks is)

pub returns-then-not-branch-clause-open : goal.returns-then-not-branch-clause-open
returns-then-not-branch-clause-open c = round_open c.loop-round.self.kept.items c.round.new.self.kept.items c.loop-round.self.needs c.round.new.self.needs c.in_ok-round.ensures.round
    (c.in_ok-round.ensures.same c.if-not-branch.true)

pub loop-round-preserved : goal.loop-round-preserved
loop-round-preserved c = let fewer = c.in_ok-round.ensures.fewer c.if-not-branch.false in record {
  finds = λ marks is. finder_round marks c.loop-round.self c.round.new.self c.in_ok-round.ensures.asked c.in_ok-round.ensures.round (c.loop-round.invariant.finds marks is);
  asked = c.in_ok-round.ensures.asked ∙ c.loop-round.invariant.asked;
  few = omega (arith, fewer, c.loop-round.invariant.few);
}
