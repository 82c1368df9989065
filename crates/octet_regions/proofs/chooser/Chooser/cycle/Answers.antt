use Rattle.std.proofs.Common.{◌<◌, true, false, List, length, refl, sym, ◌∙◌, subst, arith, length-set}
use Rattle.std.proofs.lemmas.Option.{slice_get_read, slice_get_within, get_or_from_slice_get}
use Rattle.std.proofs.lemmas.Result.{IfOk-weaker}
use Rattle.octet_regions.specs.declared.region.Hop.{Hop}
use Rattle.octet_regions.specs.Choice.{IsCycle}
use Rattle.octet_regions.specs.code.Walk.{HasInto, IsFrom}
use Rattle.octet_regions.proofs.Walking.{cycle_is, walks_more, was_there}
use Rattle.octet_regions.proofs.chooser.Chooser.cycle.Goals as goal

pub loop-came-preserved : goal.loop-came-preserved
loop-came-preserved c =
    let inv = c.loop-came.invariant in
    let within = slice_get_within c.args.self.now.queues.items c.loop-came.at inv.behind.queue inv.behind.is_there in
    let within' : c.loop-came.at < length c.loop-came.came.items = omega (arith, within, inv.many) in
    let at = slice_get_read c.loop-came.came.items (length c.loop-came.came.items) c.loop-came.at c.index.result.now refl within' c.index.ensures in
    record {
      many = length-set c.loop-came.came.items c.loop-came.at true ∙ inv.many;
      behind = c.in_ok-hop.ensures.behind;
      walks =
          walks_more c.args.accesses.now c.args.self.now.order.items c.args.start c.loop-came.at c.loop-came.came.items c.loop-came.hops.items c.push.new.self.items c.in_ok-hop.hop within'
          (get_or_from_slice_get c.loop-came.came.items c.loop-came.at c.index.result.now false at ∙ c.loop-came-test.true) inv.walks c.in_ok-hop.ensures.into c.in_ok-hop.ensures.hop c.in_ok-push.ensures.items;
    }

pub from_thread-requires : goal.from_thread-requires
from_thread-requires c =
    let inv = c.loop-came.invariant in
    let within = slice_get_within c.args.self.now.queues.items c.loop-came.at inv.behind.queue inv.behind.is_there in
    let within' : c.loop-came.at < length c.loop-came.came.items = omega (arith, within, inv.many) in
    let at = slice_get_read c.loop-came.came.items (length c.loop-came.came.items) c.loop-came.at c.index.result.now refl within' c.index.ensures in
    subst (λ (hops : List Hop). HasInto hops c.loop-came.at) (sym c.deref.ensures.value)
    (was_there c.args.accesses.now c.args.self.now.order.items c.args.start c.loop-came.at c.loop-came.came.items c.loop-came.hops.items inv.walks within'
    (get_or_from_slice_get c.loop-came.came.items c.loop-came.at c.index.result.now false at ∙ c.loop-came-test.false))

pub returns : goal.returns
returns c =
    IfOk-weaker c.from_thread.result (IsFrom c.deref.result.now c.loop-came.at) (IsCycle c.args.accesses.now c.args.self.now.order.items)
    (λ cycle from. cycle_is c.args.accesses.now c.args.self.now c.requires.stuck.keeps c.args.start c.loop-came.at c.loop-came.came.items c.loop-came.hops.items cycle c.requires.start c.loop-came.invariant.walks
    (subst (λ (hops : List Hop). IsFrom hops c.loop-came.at cycle) c.deref.ensures.value from)) c.from_thread.ensures
