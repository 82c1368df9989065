use Rattle.std.proofs.Common.{rules, ◌≡◌, ◌<◌, ◌∙◌, Option, None, sym, ap, subst, arith, append-nil}
use Rattle.octet_model.specs.Orders.{values_read}
use Rattle.octet_state.specs.declared.act.Mode.TheVariants.{Update}
use Rattle.octet_rule.specs.Changes.{changed_by, amount_by}
use Rattle.octet_rule.specs.Seats.{view, objects_of}
use Rattle.octet_heap.specs.declared.pending_access.PendingAccess.{PendingAccess}
use Rattle.octet_heap.specs.declared.updated.Updated.{Updated}
use Rattle.octet_heap.specs.Calls.{access_to}
use Rattle.octet_heap.specs.Recorders.{KeepsSeatAfter}
use Rattle.octet_heap.specs.SlowPath.{slow_after}
use Rattle.octet_heap.specs.Standing.{update_of, begun_of, IsOne, IsAtRest, IsAbout, HasFuel, IsWithin}
use Rattle.octet_heap.specs.Updates.{answer_after, update_to, PollsToChange}
use Rattle.octet_heap.specs.Waiting.{EndsPoll}
use Rattle.octet_heap.specs.Workers.{seat_of}
use Rattle.octet_heap.proofs.polls.Begun.{is_update, update_begun}
use Rattle.octet_heap.proofs.polls.Reading.{can_record, reads_made, reads_pending, slow_most, still_whole, still_room}
use Rattle.octet_heap.proofs.heap.Heap.go_on_with_update.Goals as goal

pub resume_change-updated-requires-clause-can : goal.resume_change-updated-requires-clause-can
resume_change-updated-requires-clause-can c = let w = c.args.worker.now in
    let begun = (is_update w.pending w.changing (update_to c.args.object c.args.change) c.requires.own.one c.requires.begun).1 in record {
      own = c.requires.own.own;
      object = subst (IsWithin (objects_of c.args.self.now.words)) begun c.requires.own.within;
      more = can_record w (subst (λ (o : Option PendingAccess). HasFuel o w.recorder.log.accesses w.fuel) begun c.requires.own.fuelled);
    }

pub resume_change-updated-requires-clause-begun : goal.resume_change-updated-requires-clause-begun
resume_change-updated-requires-clause-begun c = let w = c.args.worker.now in let v = seat_of w in
    update_begun v.threads w.pending w.changing (update_to c.args.object c.args.change) v.thread.phase c.requires.own.one c.requires.begun c.requires.own.about

pub invariant_of-worker : goal.invariant_of-worker
invariant_of-worker c =
    let w = c.args.worker.now in let change = c.args.change in let r = c.resume_change-updated.new.recorder in let v = seat_of w in let u = view r.seat in
    let begun = (is_update w.pending w.changing (update_to c.args.object change) c.requires.own.one c.requires.begun).1 in
    let more : w.recorder.log.accesses < w.fuel = subst (λ (o : Option PendingAccess). HasFuel o w.recorder.log.accesses w.fuel) begun c.requires.own.fuelled in
    let keeps = subst (λ (a : Updated). KeepsSeatAfter c.args.self.now.words (answer_after change a) w.recorder r) c.in-Made.is c.resume_change-updated.ensures.keeps in
    let polls = subst (λ (a : Updated). PollsToChange c.args.object change v a u) c.in-Made.is c.resume_change-updated.ensures.polls in record {
      whole = still_whole w c.args.self.now.words _ r keeps;
      reading = w.reading ∙ sym (reads_made (access_to c.args.object Update (amount_by change c.in-Made.before)) v u (changed_by change c.in-Made.before) polls.polls.journal ∙ append-nil (values_read v.journal));
      to_read = w.to_read;
      room = still_room w c.args.self.now.words _ r keeps;
      few = (let a = keeps.counts in omega arith, w.few.1);
      least = let a = keeps.counts in let b = w.least in let d = c.slow_by-worker.ensures in let e = slow_most c.resume_change-updated.result.1 w.slow in omega arith;
    }

pub invariant_of-worker-in-Pending : goal.invariant_of-worker-in-Pending
invariant_of-worker-in-Pending c =
    let w = c.args.worker.now in let change = c.args.change in let r = c.resume_change-updated.new.recorder in let v = seat_of w in let u = view r.seat in
    let keeps = subst (λ (a : Updated). KeepsSeatAfter c.args.self.now.words (answer_after change a) w.recorder r) c.in-Pending.is c.resume_change-updated.ensures.keeps in
    let polls = subst (λ (a : Updated). PollsToChange c.args.object change v a u) c.in-Pending.is c.resume_change-updated.ensures.polls in record {
      whole = still_whole w c.args.self.now.words _ r keeps;
      reading = w.reading ∙ sym (reads_pending (update_of c.args.object) v u c.in-Pending.why polls.polls.journal);
      to_read = w.to_read;
      room = still_room w c.args.self.now.words _ r keeps;
      few = (let a = keeps.counts in let b = w.few.0 in omega arith, w.few.1);
      least = let a = keeps.counts in let b = w.least in omega arith;
    }

pub returns-in-Made : goal.returns-in-Made
returns-in-Made c = record {
  own = (let worker = c.args.worker.now in let recorder = c.resume_change-updated.new.recorder in let w = view recorder.seat in
      let change = c.args.change in
      let keeps = subst (λ (a : Updated). KeepsSeatAfter c.args.self.now.words (answer_after change a) worker.recorder recorder) c.in-Made.is c.resume_change-updated.ensures.keeps in
      let ends = subst (λ (a : Updated). EndsPoll (update_of c.args.object) (answer_after change a) w) c.in-Made.is c.resume_change-updated.ensures.ends in
      let none : worker.pending ≡ None = (is_update worker.pending worker.changing (update_to c.args.object change) c.requires.own.one c.requires.begun).0 in record {
        own = keeps.own;
        same_fuel = c.requires.own.same_fuel;
        owes_nothing = ends.0;
        one = subst (λ (o : Option PendingAccess). IsOne o None) (sym none) tt;
        about = subst (λ (o : Option PendingAccess). IsAbout w.threads (begun_of o None) w.thread.phase) (sym none) (subst IsAtRest (sym ends.1) tt);
        fuelled = subst (λ (o : Option PendingAccess). HasFuel (begun_of o None) recorder.log.accesses worker.fuel) (sym none) tt;
        within = subst (λ (o : Option PendingAccess). IsWithin (objects_of c.args.self.now.words) (begun_of o None)) (sym none) tt;
      });
  pending = search rules;
  changing = search rules;
  idle = search rules;
  polls = search rules;
  number = search rules;
  counts = search rules;
  slow = (let slow = c.args.worker.now.slow in
      c.slow_by-worker.ensures ∙ (ap (λ (a : Updated). slow_after (answer_after c.args.change a) c.resume_change-updated.result.1 slow) (sym c.in-Made.is) ∙ c.resume_change-updated.ensures.path slow));
}

pub returns-in-Pending : goal.returns-in-Pending
returns-in-Pending c = record {
  own = search rules;
  pending = search rules;
  changing = search rules;
  idle = search rules;
  polls = search rules;
  number = search rules;
  counts = search rules;
  slow = search rules;
}
