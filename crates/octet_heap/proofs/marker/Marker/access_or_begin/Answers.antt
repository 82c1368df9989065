use Rattle.std.proofs.Common.{◌∙◌, Option, Some, None, sym, ap, subst, arith}
use Rattle.octet_state.specs.declared.phase.Phase.TheVariants as phase
use Rattle.octet_rule.specs.Seats.{view}
use Rattle.octet_heap.specs.declared.pending_update.PendingUpdate.{PendingUpdate}
use Rattle.octet_heap.specs.declared.poll.Poll.{Poll}
use Rattle.octet_heap.specs.Builders.{Accessing}
use Rattle.octet_heap.specs.Calls.{access_to}
use Rattle.octet_heap.specs.Markers.{marker_seat}
use Rattle.octet_heap.specs.Models.{marker_model}
use Rattle.octet_heap.specs.Recorders.{KeepsSeatAfter}
use Rattle.octet_heap.specs.SlowPath.{slow_after}
use Rattle.octet_heap.specs.Standing.{IsOne}
use Rattle.octet_heap.specs.Waiting.{EndsPoll}
use Rattle.octet_heap.proofs.Modelled.{same_standing, standing_after, accesses_by}
use Rattle.octet_heap.proofs.polls.Reading.{slow_most, still_ready}
use Rattle.octet_heap.proofs.marker.Marker.access_or_begin.Goals as goal

pub invariant_of-self : goal.invariant_of-self
invariant_of-self c = let m = c.args.self.now in let r = c.start-poll.new.recorder in
    let keeps = subst (λ (a : Poll). KeepsSeatAfter c.args.heap.now.words a m.recorder r) c.in-Ready.is c.start-poll.ensures.keeps in record {
      least = let a = keeps.counts in let b = m.least in let d = c.slow_by-self.ensures in let e = slow_most c.start-poll.result.1 m.slow in omega arith;
    }

pub returns-in-Pending-clause-own : goal.returns-in-Pending-clause-own
returns-in-Pending-clause-own c = let m = c.args.self.now in let r = c.start-poll.new.recorder in
    let access = access_to c.args.object c.args.mode c.args.value in
    let keeps = subst (λ (a : Poll). KeepsSeatAfter c.args.heap.now.words a m.recorder r) c.in-Pending.is c.start-poll.ensures.keeps in
    let ends = subst (λ (a : Poll). EndsPoll access a (view r.seat)) c.in-Pending.is c.start-poll.ensures.ends in record {
      own = keeps.own;
      owes_nothing = ends.0;
      one = subst (λ (o : Option PendingUpdate). IsOne (Some access) o) (sym c.requires.idle.2) tt;
      about = ends.1;
      ready = still_ready c.args.heap.now.words m.recorder r keeps c.requires.room;
      within = c.requires.object;
    }

pub returns-in-Ready-clause-slow : goal.returns-in-Ready-clause-slow
returns-in-Ready-clause-slow c = let slow = c.args.self.now.slow in
    c.slow_by-self.ensures ∙ (ap (λ (a : Poll). slow_after a c.start-poll.result.1 slow) (sym c.in-Ready.is) ∙ c.start-poll.ensures.path slow)

pub returns-in-Ready-clause-thread : goal.returns-in-Ready-clause-thread
returns-in-Ready-clause-thread c = let m = c.args.self.now in let w = view c.start-poll.new.recorder.seat in
    let access = access_to c.args.object c.args.mode c.args.value in
    let ends = subst (λ (a : Poll). EndsPoll access a w) c.in-Ready.is c.start-poll.ensures.ends in
    let stands = same_standing m.pending None m.changing None w.thread.phase phase.Idle c.requires.idle.1 c.requires.idle.2 ends.1 in
    accesses_by access c.start-poll.result.0 (marker_seat m) w (marker_model m).standing _ c.start-poll.ensures.number c.start-poll.ensures.polls.journal
    (stands ∙ sym (ap (standing_after (Accessing access)) c.in-Ready.is))

pub returns-in-Pending-clause-thread : goal.returns-in-Pending-clause-thread
returns-in-Pending-clause-thread c = let m = c.args.self.now in let w = view c.start-poll.new.recorder.seat in
    let access = access_to c.args.object c.args.mode c.args.value in
    accesses_by access c.start-poll.result.0 (marker_seat m) w (marker_model m).standing _ c.start-poll.ensures.number c.start-poll.ensures.polls.journal
    (sym (ap (standing_after (Accessing access)) c.in-Pending.is))
