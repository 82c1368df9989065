use Rattle.std.proofs.Common.{◌++◌, ◌∷◌, ◌<◌, [], refl, sym, subst}
use Rattle.octet_model.specs.declared.log.ThreadLog.{ThreadLog}
use Rattle.octet_parallel.proofs.solo.Growing.{demands_within, events_left, fewer_left, found_next, more, own_read, room, writes}
use Rattle.octet_parallel.proofs.alone.Alone.play.Goals as goal

pub event-requires : goal.event-requires
event-requires g c =
    c.next.ensures.within _ (demands_within _ c.args.log.now _ _ c.loop-event.self c.loop-event.invariant.made.1 _ c.deref.ensures.value)

pub change_heap-requires : goal.change_heap-requires
change_heap-requires g c =
    let own = own_read _ _ _ _ c.index-as_slice-self.is c.as_slice.ensures c.requires.within in
    let is = found_next _ _ c.loop-event.self.replay _ _ _ _ own c.deref.ensures.value c.next.ensures.next c.in-Some.ensures in
    writes _ c.args.log.now _ _ c.loop-event.self c.loop-event.invariant.made.1 c.in-Some.event is

pub make-requires-clause-room : goal.make-requires-clause-room
make-requires-clause-room g c =
    let own = own_read _ _ _ _ c.index-as_slice-self.is c.as_slice.ensures c.requires.within in
    let is = found_next _ _ c.loop-event.self.replay _ _ _ _ own c.deref.ensures.value c.next.ensures.next c.in-Some.ensures in
    room _ c.args.log.now _ _ c.loop-event.self c.loop-event.invariant.made.1 c.in-Some.event is

pub loop-event-smaller : goal.loop-event-smaller
loop-event-smaller g c =
    let own = own_read _ _ _ _ c.index-as_slice-self.is c.as_slice.ensures c.requires.within in
    let is = found_next _ _ c.loop-event.self.replay _ _ _ _ own c.deref.ensures.value c.next.ensures.next c.in-Some.ensures in
    let fewer = fewer_left _ c.args.log.now _ _ c.loop-event.self c.loop-event.invariant.made.1 c.in-Some.event is _ c.make.ensures in
    subst (λ (l : ThreadLog). events_left l c.make.new.self < events_left l c.loop-event.self.replay) (sym own) fewer

pub loop-event-preserved : goal.loop-event-preserved
loop-event-preserved g c =
    let own = own_read _ _ _ _ c.index-as_slice-self.is c.as_slice.ensures c.requires.within in
    let is = found_next _ _ c.loop-event.self.replay _ _ _ _ own c.deref.ensures.value c.next.ensures.next c.in-Some.ensures in
    let i = c.loop-event.invariant in
    record {
      of = i.of;
      number = i.number;
      made = (
        i.made.0 ++ c.in-Some.event ∷ [],
        more _ c.args.log.now _ _ c.loop-event.self i.made.1 c.in-Some.event is _ refl refl c.make.ensures c.change_heap.ensures,
      );
    }
