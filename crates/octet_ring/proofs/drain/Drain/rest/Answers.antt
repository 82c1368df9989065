use Rattle.std.proofs.Common.{◌<◌, ◌∙◌, sym, subst, length}
use Rattle.rtrb.specs.Ring.{known_items}
use Rattle.octet_ring.specs.Views.{IsOf}
use Rattle.octet_ring.proofs.Placed.{placed_at, same_lists, leaves, none_left, still_of}
use Rattle.octet_ring.proofs.drain.Drain.rest.Goals as goal

pub returns-clause-own : goal.returns-clause-own
returns-clause-own c =
    let own = subst (IsOf c.args.self.now) (sym c.sender.view_is) c.requires.own in
    let p = placed_at c.self.inside.ends.items c.args.self.now c.sender.inside.thread c.index_mut.result.now c.waiting.new.consumer c.self.view_is own.0 c.index_mut.ensures.value c.waiting.ensures.consumer.0 in (
      subst (λ lists. c.sender.inside.thread < length lists) (sym (same_lists _ _ _ _ _ p c.waiting.ensures.consumer.1)) own.0,
      still_of c.args.self.now.rings _ c.sender.inside.thread c.sender.inside.end c.waiting.new.producer own.1 p.rings.0 c.waiting.ensures.producer.0,
    )

pub returns-clause-rings : goal.returns-clause-rings
returns-clause-rings c =
    let own = subst (IsOf c.args.self.now) (sym c.sender.view_is) c.requires.own in
    let p = placed_at c.self.inside.ends.items c.args.self.now c.sender.inside.thread c.index_mut.result.now c.waiting.new.consumer c.self.view_is own.0 c.index_mut.ensures.value c.waiting.ensures.consumer.0 in
    p.rings

pub returns-clause-received : goal.returns-clause-received
returns-clause-received c =
    let own = subst (IsOf c.args.self.now) (sym c.sender.view_is) c.requires.own in
    let p = placed_at c.self.inside.ends.items c.args.self.now c.sender.inside.thread c.index_mut.result.now c.waiting.new.consumer c.self.view_is own.0 c.index_mut.ensures.value c.waiting.ensures.consumer.0 in
    same_lists _ _ _ _ _ p c.waiting.ensures.consumer.1

pub returns-clause-known : goal.returns-clause-known
returns-clause-known c =
    let own = subst (IsOf c.args.self.now) (sym c.sender.view_is) c.requires.own in
    let p = placed_at c.self.inside.ends.items c.args.self.now c.sender.inside.thread c.index_mut.result.now c.waiting.new.consumer c.self.view_is own.0 c.index_mut.ensures.value c.waiting.ensures.consumer.0 in
    (p.others, p.knows ∙ sym c.waiting.ensures.value)

pub returns-clause-sent : goal.returns-clause-sent
returns-clause-sent c =
    let own = subst (IsOf c.args.self.now) (sym c.sender.view_is) c.requires.own in
    let p = placed_at c.self.inside.ends.items c.args.self.now c.sender.inside.thread c.index_mut.result.now c.waiting.new.consumer c.self.view_is own.0 c.index_mut.ensures.value c.waiting.ensures.consumer.0 in
    (known_items c.waiting.new.consumer, leaves _ _ _ _ _ _ p c.waiting.ensures.fifo, sym c.waiting.ensures.value)

pub returns-clause-all : goal.returns-clause-all
returns-clause-all c =
    let own = subst (IsOf c.args.self.now) (sym c.sender.view_is) c.requires.own in
    let p = placed_at c.self.inside.ends.items c.args.self.now c.sender.inside.thread c.index_mut.result.now c.waiting.new.consumer c.self.view_is own.0 c.index_mut.ensures.value c.waiting.ensures.consumer.0 in
    λ none. none_left _ _ (known_items c.waiting.new.consumer) c.waiting.result (leaves _ _ _ _ _ _ p c.waiting.ensures.fifo) (sym c.waiting.ensures.value) none
