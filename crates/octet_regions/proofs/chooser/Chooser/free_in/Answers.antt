use Rattle.std.proofs.Common.{refl}
use Rattle.octet_regions.proofs.Choosing.{keeps_passed, tells_free}
use Rattle.octet_regions.proofs.Queues.{set_there}
use Rattle.octet_regions.proofs.chooser.Chooser.free_in.Goals as goal

pub returns-clause-keeps : goal.returns-clause-keeps
returns-clause-keeps c = λ accesses keeps.
    keeps_passed accesses c.args.self.now keeps c.args.thread _ c.index_mut.result.now c.free.new.self c.requires.there c.index_mut.ensures.value refl refl refl c.free.ensures.passes

pub returns-clause-free : goal.returns-clause-free
returns-clause-free c = λ accesses keeps.
    tells_free accesses _ keeps c.args.thread c.free.new.self (set_there c.args.self.now.queues.items c.args.thread c.free.new.self c.requires.there) c.free.result c.free.ensures.tells
