use Rattle.std.proofs.Common.{rules, ◌<◌, ◌∙◌, sym, ap, subst, arith, append-nil}
use Rattle.octet_model.specs.Orders.{values_read}
use Rattle.octet_state.specs.declared.act.Mode.TheVariants.{Update}
use Rattle.octet_rule.specs.Changes.{changed_by, amount_by}
use Rattle.octet_rule.specs.Seats.{view}
use Rattle.octet_heap.specs.declared.updated.Updated.{Updated}
use Rattle.octet_heap.specs.Calls.{access_to}
use Rattle.octet_heap.specs.Recorders.{KeepsSeatAfter}
use Rattle.octet_heap.specs.SlowPath.{slow_after}
use Rattle.octet_heap.specs.Standing.{update_of}
use Rattle.octet_heap.specs.Updates.{answer_after, PollsToChange}
use Rattle.octet_heap.specs.Workers.{seat_of}
use Rattle.octet_heap.proofs.polls.Reading.{can_record, reads_made, reads_pending, slow_most, still_whole, still_room}
use Rattle.octet_heap.proofs.heap.Heap.begin_update.Goals as goal

pub start_change-updated-requires-clause-can : goal.start_change-updated-requires-clause-can
start_change-updated-requires-clause-can c = let w = c.args.worker.now in record {
  own = c.requires.own.own;
  object = c.requires.object;
  more = can_record w (let more = c.requires.more in let a = w.recorder.logged.accesses in let b = c.requires.own.same_fuel in omega arith);
}

pub invariant_of-worker : goal.invariant_of-worker
invariant_of-worker c =
    let w = c.args.worker.now in let change = c.args.change in let r = c.start_change-updated.new.recorder in let v = seat_of w in let u = view r.seat in
    let more : w.recorder.log.accesses < w.fuel = let more = c.requires.more in let a = w.recorder.logged.accesses in let b = c.requires.own.same_fuel in omega arith in
    let keeps = subst (λ (a : Updated). KeepsSeatAfter c.args.self.now.words (answer_after change a) w.recorder r) c.in-Made.is c.start_change-updated.ensures.keeps in
    let polls = subst (λ (a : Updated). PollsToChange c.args.object change v a u) c.in-Made.is c.start_change-updated.ensures.polls in record {
      whole = still_whole w c.args.self.now.words _ r keeps;
      reading = w.reading ∙ sym (reads_made (access_to c.args.object Update (amount_by change c.in-Made.before)) v u (changed_by change c.in-Made.before) polls.polls.journal ∙ append-nil (values_read v.journal));
      to_read = w.to_read;
      room = still_room w c.args.self.now.words _ r keeps;
      few = (let a = keeps.counts in omega arith, w.few.1);
      least = let a = keeps.counts in let b = w.least in let d = c.slow_by-worker.ensures in let e = slow_most c.start_change-updated.result.1 w.slow in omega arith;
    }

pub invariant_of-worker-in-Pending : goal.invariant_of-worker-in-Pending
invariant_of-worker-in-Pending c =
    let w = c.args.worker.now in let change = c.args.change in let r = c.start_change-updated.new.recorder in let v = seat_of w in let u = view r.seat in
    let keeps = subst (λ (a : Updated). KeepsSeatAfter c.args.self.now.words (answer_after change a) w.recorder r) c.in-Pending.is c.start_change-updated.ensures.keeps in
    let polls = subst (λ (a : Updated). PollsToChange c.args.object change v a u) c.in-Pending.is c.start_change-updated.ensures.polls in record {
      whole = still_whole w c.args.self.now.words _ r keeps;
      reading = w.reading ∙ sym (reads_pending (update_of c.args.object) v u c.in-Pending.why polls.polls.journal);
      to_read = w.to_read;
      room = still_room w c.args.self.now.words _ r keeps;
      few = (let a = keeps.counts in let b = w.few.0 in omega arith, w.few.1);
      least = let a = keeps.counts in let b = w.least in omega arith;
    }

pub returns-in-Made : goal.returns-in-Made
returns-in-Made c = record {
  own = search rules;
  pending = search rules;
  changing = search rules;
  idle = search rules;
  polls = search rules;
  number = search rules;
  counts = search rules;
  slow = (let slow = c.args.worker.now.slow in
      c.slow_by-worker.ensures ∙ (ap (λ (a : Updated). slow_after (answer_after c.args.change a) c.start_change-updated.result.1 slow) (sym c.in-Made.is) ∙ c.start_change-updated.ensures.path slow));
}

pub returns-in-Pending : goal.returns-in-Pending
returns-in-Pending c = record {
  own = search rules;
  pending = search rules;
  changing = search rules;
  idle = search rules;
  polls = search rules;
  number = search rules;
  counts = search rules;
  slow = search rules;
}
