use Rattle.std.proofs.Common.{Vec, Global, length, refl, ap}
use Rattle.octet_regions.specs.declared.queue.QueuedRegion.{QueuedRegion}
use Rattle.octet_regions.proofs.Choosing.{behind_at, fewer_left, keeps_taken, within_set}
use Rattle.octet_regions.proofs.chooser.Chooser.take.Goals as goal

pub take-requires : goal.take-requires
take-requires c = behind_at c.args.self.now.queues.items c.args.region.thread c.index_mut.result.now c.requires.left c.index_mut.ensures.value

pub returns-clause-keeps : goal.returns-clause-keeps
returns-clause-keeps c = λ accesses keeps chosen.
    keeps_taken accesses c.args.self.now keeps c.args.region _ c.index_mut.result.now c.take.new.self chosen c.in_ok-push.ensures.items refl c.index_mut.ensures.value c.take.ensures.regions c.take.ensures.waits c.take.ensures.taken c.take.ensures.over c.raise.ensures

pub returns-clause-within : goal.returns-clause-within
returns-clause-within c = within_set c.args.self.now.queues.items c.args.region.thread c.index_mut.result.now c.take.new.self c.requires.there c.index_mut.ensures.value c.take.ensures.regions c.take.ensures.waits c.requires.within

pub returns-clause-fewer : goal.returns-clause-fewer
returns-clause-fewer c =
    fewer_left c.args.self.now.queues.items c.args.region.thread c.index_mut.result.now c.take.new.self c.requires.left c.index_mut.ensures.value (ap (λ (v : Vec QueuedRegion Global). length v.items) c.take.ensures.regions) c.take.ensures.taken
