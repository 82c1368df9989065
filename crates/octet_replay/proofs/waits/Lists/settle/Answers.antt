use Rattle.std.proofs.Common.{refl}
use Rattle.octet_replay.proofs.Placing.{Marked, others_placed, placed_here}
use Rattle.octet_replay.proofs.waits.Lists.settle.Goals as goal

marked : (c : goal.After-set) → Marked c.enlist-met.new.self (record c.enlist-met.new.self { ready = c.set.new.self }) c.args.thread c.enlist-met.result
marked c = record { ready = c.set.new.self; after_is = refl; own = c.set.ensures.own; others = c.set.ensures.others }

pub returns-clause-placed : goal.returns-clause-placed
returns-clause-placed c =
    placed_here c.args.self.now c.enlist-met.new.self _ c.args.thread c.args.need c.enlist-met.result c.requires.its c.enlist-met.ensures.kept c.enlist-met.ensures.ready
    c.enlist-met.ensures.met c.enlist-met.ensures.listed c.enlist-met.ensures.others (marked c)

pub returns-clause-others : goal.returns-clause-others
returns-clause-others c =
    others_placed c.args.self.now c.enlist-met.new.self _ c.args.thread c.args.need c.enlist-met.result c.requires.its c.enlist-met.ensures.kept c.enlist-met.ensures.ready
    c.enlist-met.ensures.met c.enlist-met.ensures.listed c.enlist-met.ensures.others (marked c)
