use Rattle.std.proofs.Common.{rules, ◌≡◌, ◌∙◌, Option, Some, sym, ap, subst, arith}
use Rattle.octet_rule.specs.Seats.{view, objects_of}
use Rattle.octet_heap.specs.declared.pending_access.PendingAccess.{PendingAccess}
use Rattle.octet_heap.specs.declared.updated.Updated.{Updated}
use Rattle.octet_heap.specs.Markers.{HasRoomIf}
use Rattle.octet_heap.specs.Recorders.{KeepsSeatAfter}
use Rattle.octet_heap.specs.SlowPath.{slow_after}
use Rattle.octet_heap.specs.Standing.{update_of, begun_of, IsOne, IsAbout, IsWithin}
use Rattle.octet_heap.specs.Updates.{answer_after, update_to}
use Rattle.octet_heap.specs.Waiting.{EndsPoll}
use Rattle.octet_heap.proofs.polls.Reading.{slow_most, still_ready}
use Rattle.octet_heap.proofs.marker.Marker.begin_update.Goals as goal

pub invariant_of-self : goal.invariant_of-self
invariant_of-self c = let m = c.args.self.now in let r = c.start_change-updated.new.recorder in
    let keeps = subst (λ (a : Updated). KeepsSeatAfter c.args.heap.now.words (answer_after c.args.change a) m.recorder r) c.in-Made.is c.start_change-updated.ensures.keeps in record {
      least = let a = keeps.counts in let b = m.least in let d = c.slow_by-self.ensures in let e = slow_most c.start_change-updated.result.1 m.slow in omega arith;
    }

pub returns-in-Made : goal.returns-in-Made
returns-in-Made c = record {
  own = search rules;
  pending = search rules;
  changing = search rules;
  idle = search rules;
  polls = search rules;
  number = search rules;
  counts = search rules;
  slow = (let slow = c.args.self.now.slow in
      c.slow_by-self.ensures ∙ (ap (λ (a : Updated). slow_after (answer_after c.args.change a) c.start_change-updated.result.1 slow) (sym c.in-Made.is) ∙ c.start_change-updated.ensures.path slow));
  same = search rules;
}

pub returns-in-Pending : goal.returns-in-Pending
returns-in-Pending c = record {
  own = (let m = c.args.self.now in let r = c.start_change-updated.new.recorder in let w = view r.seat in
      let access = update_of c.args.object in let update = update_to c.args.object c.args.change in
      let begun : begun_of m.pending (Some update) ≡ Some access = ap (λ (o : Option PendingAccess). begun_of o (Some update)) c.requires.idle.1 in
      let keeps = subst (λ (a : Updated). KeepsSeatAfter c.args.heap.now.words (answer_after c.args.change a) m.recorder r) c.in-Pending.is c.start_change-updated.ensures.keeps in
      let ends = subst (λ (a : Updated). EndsPoll access (answer_after c.args.change a) w) c.in-Pending.is c.start_change-updated.ensures.ends in record {
        own = keeps.own;
        owes_nothing = ends.0;
        one = subst (λ (o : Option PendingAccess). IsOne o (Some update)) (sym c.requires.idle.1) tt;
        about = subst (λ (o : Option PendingAccess). IsAbout w.threads o w.thread.phase) (sym begun) ends.1;
        ready = subst (λ (o : Option PendingAccess). HasRoomIf o r) (sym begun) (still_ready c.args.heap.now.words m.recorder r keeps c.requires.room);
        within = subst (IsWithin (objects_of c.args.heap.now.words)) (sym begun) c.requires.object;
      });
  pending = search rules;
  changing = search rules;
  idle = search rules;
  polls = search rules;
  number = search rules;
  counts = search rules;
  slow = search rules;
  same = search rules;
}
