use Rattle.octet_ring.proofs.Placed.{placed_at, given, gives, learns, gives_none}
use Rattle.octet_ring.proofs.drain.Drain.take.Goals as goal

pub returns-in_default-clause-rings : goal.returns-in_default-clause-rings
returns-in_default-clause-rings c = (placed_at c.self.inside.ends.items c.args.self.now c.args.thread c.index_mut.result.now c.pop.new.self c.self.view_is c.requires.thread c.index_mut.ensures.value c.pop.ensures.ring).rings

pub returns-in_default-clause-known : goal.returns-in_default-clause-known
returns-in_default-clause-known c = (placed_at c.self.inside.ends.items c.args.self.now c.args.thread c.index_mut.result.now c.pop.new.self c.self.view_is c.requires.thread c.index_mut.ensures.value c.pop.ensures.ring).others

pub returns-in_default-clause-none : goal.returns-in_default-clause-none
returns-in_default-clause-none c =
    gives_none _ _ _ _ _ (placed_at c.self.inside.ends.items c.args.self.now c.args.thread c.index_mut.result.now c.pop.new.self c.self.view_is c.requires.thread c.index_mut.ensures.value c.pop.ensures.ring)
    c.in_default.ensures.empty.0 c.in_default.ensures.empty.1 c.in_default.ensures.succeeds

pub returns-clause-rings : goal.returns-clause-rings
returns-clause-rings c = (placed_at c.self.inside.ends.items c.args.self.now c.args.thread c.index_mut.result.now c.pop.new.self c.self.view_is c.requires.thread c.index_mut.ensures.value c.pop.ensures.ring).rings

pub returns-clause-received : goal.returns-clause-received
returns-clause-received c =
    gives _ _ _ _ _ c.in-Ok.mark (placed_at c.self.inside.ends.items c.args.self.now c.args.thread c.index_mut.result.now c.pop.new.self c.self.view_is c.requires.thread c.index_mut.ensures.value c.pop.ensures.ring) c.in-Ok.ensures.ok.0

pub returns-clause-given : goal.returns-clause-given
returns-clause-given c =
    given _ _ _ _ _ c.in-Ok.mark (placed_at c.self.inside.ends.items c.args.self.now c.args.thread c.index_mut.result.now c.pop.new.self c.self.view_is c.requires.thread c.index_mut.ensures.value c.pop.ensures.ring) c.in-Ok.ensures.ok.0

pub returns-clause-known : goal.returns-clause-known
returns-clause-known c = (placed_at c.self.inside.ends.items c.args.self.now c.args.thread c.index_mut.result.now c.pop.new.self c.self.view_is c.requires.thread c.index_mut.ensures.value c.pop.ensures.ring).others

pub returns-clause-some : goal.returns-clause-some
returns-clause-some c =
    learns _ _ _ _ _ c.in-Ok.mark (placed_at c.self.inside.ends.items c.args.self.now c.args.thread c.index_mut.result.now c.pop.new.self c.self.view_is c.requires.thread c.index_mut.ensures.value c.pop.ensures.ring) c.in-Ok.ensures.ok.1
