use Rattle.std.proofs.Common.{◌∙◌, Option, sym, ap, subst, arith}
use Rattle.octet_rule.specs.Seats.{view, objects_of}
use Rattle.octet_heap.specs.declared.pending_access.PendingAccess.{PendingAccess}
use Rattle.octet_heap.specs.declared.poll.Poll.{Poll}
use Rattle.octet_heap.specs.Markers.{marker_seat, HasRoomIf}
use Rattle.octet_heap.specs.Recorders.{KeepsSeatAfter}
use Rattle.octet_heap.specs.SlowPath.{slow_after}
use Rattle.octet_heap.specs.Standing.{IsAbout, IsWithin}
use Rattle.octet_heap.specs.Waiting.{EndsPoll}
use Rattle.octet_heap.proofs.polls.Begun.{begun_access}
use Rattle.octet_heap.proofs.polls.Reading.{slow_most, still_ready}
use Rattle.octet_heap.proofs.marker.Marker.poll_access.Goals as goal

pub resume-poll-requires-clause-can : goal.resume-poll-requires-clause-can
resume-poll-requires-clause-can c = let m = c.args.self.now in let begun = begun_access m.pending m.changing c.args.access c.requires.begun in record {
  own = c.requires.own.own;
  object = subst (IsWithin (objects_of c.args.heap.now.words)) begun c.requires.own.within;
  more = subst (λ (o : Option PendingAccess). HasRoomIf o m.recorder) begun c.requires.own.ready;
}

pub resume-poll-requires-clause-begun : goal.resume-poll-requires-clause-begun
resume-poll-requires-clause-begun c = let m = c.args.self.now in let v = marker_seat m in
    subst (λ (o : Option PendingAccess). IsAbout v.threads o v.thread.phase) (begun_access m.pending m.changing c.args.access c.requires.begun) c.requires.own.about

pub invariant_of-self : goal.invariant_of-self
invariant_of-self c = let m = c.args.self.now in let r = c.resume-poll.new.recorder in
    let keeps = subst (λ (a : Poll). KeepsSeatAfter c.args.heap.now.words a m.recorder r) c.in-Ready.is c.resume-poll.ensures.keeps in record {
      least = let a = keeps.counts in let b = m.least in let d = c.slow_by-self.ensures in let e = slow_most c.resume-poll.result.1 m.slow in omega arith;
    }

pub returns-in-Pending-clause-own : goal.returns-in-Pending-clause-own
returns-in-Pending-clause-own c = let m = c.args.self.now in let r = c.resume-poll.new.recorder in let w = view r.seat in
    let begun = begun_access m.pending m.changing c.args.access c.requires.begun in
    let keeps = subst (λ (a : Poll). KeepsSeatAfter c.args.heap.now.words a m.recorder r) c.in-Pending.is c.resume-poll.ensures.keeps in
    let ends = subst (λ (a : Poll). EndsPoll c.args.access a w) c.in-Pending.is c.resume-poll.ensures.ends in record {
      own = keeps.own;
      owes_nothing = ends.0;
      one = c.requires.own.one;
      about = subst (λ (o : Option PendingAccess). IsAbout w.threads o w.thread.phase) (sym begun) ends.1;
      ready = subst (λ (o : Option PendingAccess). HasRoomIf o r) (sym begun) (still_ready c.args.heap.now.words m.recorder r keeps (subst (λ (o : Option PendingAccess). HasRoomIf o m.recorder) begun c.requires.own.ready));
      within = c.requires.own.within;
    }

pub returns-in-Ready-clause-slow : goal.returns-in-Ready-clause-slow
returns-in-Ready-clause-slow c = let slow = c.args.self.now.slow in
    c.slow_by-self.ensures ∙ (ap (λ (a : Poll). slow_after a c.resume-poll.result.1 slow) (sym c.in-Ready.is) ∙ c.resume-poll.ensures.path slow)
