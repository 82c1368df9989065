use denote.Ref.{Bor}
use Rattle.std.proofs.Common.{Option, sym, subst}
use Rattle.std.specs.Prelude.{OnOk}
use Rattle.octet_regions.specs.declared.bounds.Bounds.{Bounds}
use Rattle.octet_regions.specs.code.Bounds.{bounds_of}
use Rattle.octet_regions.specs.code.Earlier.{AddsWaits}
use Rattle.octet_regions.proofs.Waiting.{adds_nothing}
use Rattle.octet_regions.proofs.queue.RegionQueue.add_waits.Goals as goal

pub returns-in-Some-clause-adds : goal.returns-in-Some-clause-adds
returns-in-Some-clause-adds c =
    subst (λ (o : Option (Bor Bounds)). OnOk c.add_each.result (AddsWaits c.args.thread (bounds_of o) c.args.self.now.waits.items c.args.self.now.known c.add_each.new.self.waits.items c.add_each.new.self.known))
    (sym c.in-Some.is) c.add_each.ensures.adds

pub returns-in-None-clause-adds : goal.returns-in-None-clause-adds
returns-in-None-clause-adds c =
    subst (λ (o : Option (Bor Bounds)). AddsWaits c.args.thread (bounds_of o) c.args.self.now.waits.items c.args.self.now.known c.args.self.now.waits.items c.args.self.now.known)
    (sym c.in-None.is) (adds_nothing c.args.thread c.args.self.now.waits.items c.args.self.now.known)
