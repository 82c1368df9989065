use Rattle.std.proofs.Common.{rules, ◌≡◌, ◌∙◌, Option, None, sym, ap, subst, arith}
use Rattle.octet_rule.specs.Seats.{view, objects_of}
use Rattle.octet_heap.specs.declared.pending_access.PendingAccess.{PendingAccess}
use Rattle.octet_heap.specs.declared.updated.Updated.{Updated}
use Rattle.octet_heap.specs.Markers.{marker_seat, HasRoomIf}
use Rattle.octet_heap.specs.Recorders.{KeepsSeatAfter}
use Rattle.octet_heap.specs.SlowPath.{slow_after}
use Rattle.octet_heap.specs.Standing.{update_of, begun_of, IsOne, IsAtRest, IsAbout, IsWithin}
use Rattle.octet_heap.specs.Updates.{answer_after, update_to}
use Rattle.octet_heap.specs.Waiting.{EndsPoll}
use Rattle.octet_heap.proofs.polls.Begun.{is_update, update_begun}
use Rattle.octet_heap.proofs.polls.Reading.{slow_most, still_ready}
use Rattle.octet_heap.proofs.marker.Marker.resume_update.Goals as goal

pub resume_change-updated-requires-clause-can : goal.resume_change-updated-requires-clause-can
resume_change-updated-requires-clause-can c = let m = c.args.self.now in
    let begun = (is_update m.pending m.changing (update_to c.args.object c.args.change) c.requires.own.one c.requires.begun).1 in record {
      own = c.requires.own.own;
      object = subst (IsWithin (objects_of c.args.heap.now.words)) begun c.requires.own.within;
      more = subst (λ (o : Option PendingAccess). HasRoomIf o m.recorder) begun c.requires.own.ready;
    }

pub resume_change-updated-requires-clause-begun : goal.resume_change-updated-requires-clause-begun
resume_change-updated-requires-clause-begun c = let m = c.args.self.now in let v = marker_seat m in
    update_begun v.threads m.pending m.changing (update_to c.args.object c.args.change) v.thread.phase c.requires.own.one c.requires.begun c.requires.own.about

pub invariant_of-self : goal.invariant_of-self
invariant_of-self c = let m = c.args.self.now in let r = c.resume_change-updated.new.recorder in
    let keeps = subst (λ (a : Updated). KeepsSeatAfter c.args.heap.now.words (answer_after c.args.change a) m.recorder r) c.in-Made.is c.resume_change-updated.ensures.keeps in record {
      least = let a = keeps.counts in let b = m.least in let d = c.slow_by-self.ensures in let e = slow_most c.resume_change-updated.result.1 m.slow in omega arith;
    }

pub returns-in-Made : goal.returns-in-Made
returns-in-Made c = record {
  own = (let m = c.args.self.now in let r = c.resume_change-updated.new.recorder in let w = view r.seat in let change = c.args.change in
      let keeps = subst (λ (a : Updated). KeepsSeatAfter c.args.heap.now.words (answer_after change a) m.recorder r) c.in-Made.is c.resume_change-updated.ensures.keeps in
      let ends = subst (λ (a : Updated). EndsPoll (update_of c.args.object) (answer_after change a) w) c.in-Made.is c.resume_change-updated.ensures.ends in
      let none : m.pending ≡ None = (is_update m.pending m.changing (update_to c.args.object change) c.requires.own.one c.requires.begun).0 in record {
        own = keeps.own;
        owes_nothing = ends.0;
        one = subst (λ (o : Option PendingAccess). IsOne o None) (sym none) tt;
        about = subst (λ (o : Option PendingAccess). IsAbout w.threads (begun_of o None) w.thread.phase) (sym none) (subst IsAtRest (sym ends.1) tt);
        ready = subst (λ (o : Option PendingAccess). HasRoomIf (begun_of o None) r) (sym none) tt;
        within = subst (λ (o : Option PendingAccess). IsWithin (objects_of c.args.heap.now.words) (begun_of o None)) (sym none) tt;
      });
  pending = search rules;
  changing = search rules;
  idle = search rules;
  polls = search rules;
  number = search rules;
  counts = search rules;
  slow = (let slow = c.args.self.now.slow in
      c.slow_by-self.ensures ∙ (ap (λ (a : Updated). slow_after (answer_after c.args.change a) c.resume_change-updated.result.1 slow) (sym c.in-Made.is) ∙ c.resume_change-updated.ensures.path slow));
  same = search rules;
}

pub returns-in-Pending : goal.returns-in-Pending
returns-in-Pending c = record {
  own = (let m = c.args.self.now in let r = c.resume_change-updated.new.recorder in let w = view r.seat in
      let access = update_of c.args.object in let change = c.args.change in
      let begun = (is_update m.pending m.changing (update_to c.args.object change) c.requires.own.one c.requires.begun).1 in
      let keeps = subst (λ (a : Updated). KeepsSeatAfter c.args.heap.now.words (answer_after change a) m.recorder r) c.in-Pending.is c.resume_change-updated.ensures.keeps in
      let ends = subst (λ (a : Updated). EndsPoll access (answer_after change a) w) c.in-Pending.is c.resume_change-updated.ensures.ends in record {
        own = keeps.own;
        owes_nothing = ends.0;
        one = c.requires.own.one;
        about = subst (λ (o : Option PendingAccess). IsAbout w.threads o w.thread.phase) (sym begun) ends.1;
        ready = subst (λ (o : Option PendingAccess). HasRoomIf o r) (sym begun) (still_ready c.args.heap.now.words m.recorder r keeps (subst (λ (o : Option PendingAccess). HasRoomIf o m.recorder) begun c.requires.own.ready));
        within = c.requires.own.within;
      });
  pending = search rules;
  changing = search rules;
  idle = search rules;
  polls = search rules;
  number = search rules;
  counts = search rules;
  slow = search rules;
  same = search rules;
}
