use Rattle.std.proofs.Common.{refl, arith}
use Rattle.octet_regions.specs.code.Bounds.{bound_in}
use Rattle.octet_regions.proofs.Waiting.{adds_all, adds_more, adds_skip, none_past}
use Rattle.octet_regions.proofs.queue.RegionQueue.add_each.Goals as goal

pub loop-other-preserved-then-other-thread : goal.loop-other-preserved-then-other-thread
loop-other-preserved-then-other-thread c =
    let inv = c.loop-other.invariant in
    record {
      regions = inv.regions;
      taken = inv.taken;
      over = inv.over;
      adds = adds_skip c.loop-other.other c.args.thread (bound_in c.args.conflicts.now) c.args.self.now.waits.items c.args.self.now.known c.loop-other.self.waits.items c.loop-other.self.known (λ differ. absurd (differ c.if-other-thread.true)) inv.adds;
    }

pub loop-other-preserved-then-bound-of : goal.loop-other-preserved-then-bound-of
loop-other-preserved-then-bound-of c =
    let inv = c.loop-other.invariant in
    record {
      regions = inv.regions;
      taken = inv.taken;
      over = inv.over;
      adds = adds_skip c.loop-other.other c.args.thread (bound_in c.args.conflicts.now) c.args.self.now.waits.items c.args.self.now.known c.loop-other.self.waits.items c.loop-other.self.known (λ differ. omega (arith, c.if-bound-of.true, c.of-bound.ensures, c.of.ensures)) inv.adds;
    }

pub loop-other-preserved : goal.loop-other-preserved
loop-other-preserved c =
    let inv = c.loop-other.invariant in
    record {
      regions = inv.regions;
      taken = inv.taken;
      over = inv.over;
      adds =
          adds_more c.loop-other.other c.args.thread (bound_in c.args.conflicts.now) c.args.self.now.waits.items c.args.self.now.known c.loop-other.self.waits.items c.push.new.self.items c.loop-other.self.known c.raise.new.self
          (record { of = c.loop-other.other; bound = c.of-bound.result }) c.if-other-thread.false (omega (arith, c.if-bound-of.false, c.of.ensures)) refl c.of-bound.ensures c.in_ok-push.ensures.items c.raise.ensures inv.adds;
    }

pub returns-clause-adds : goal.returns-clause-adds
returns-clause-adds c =
    adds_all c.loop-other.other c.args.thread (bound_in c.args.conflicts.now) c.args.self.now.waits.items c.args.self.now.known c.loop-other.self.waits.items c.loop-other.self.known (λ other ge. none_past c.args.conflicts.now other (omega (arith, c.loop-other-test.false, ge))) c.loop-other.invariant.adds
