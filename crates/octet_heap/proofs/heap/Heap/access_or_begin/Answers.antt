use Rattle.std.proofs.Common.{◌≡◌, ℕ, ◌<◌, List, ◌++◌, ◌∙◌, None, sym, ap, subst, arith}
use Rattle.octet_state.specs.declared.phase.Phase.TheVariants as phase
use Rattle.octet_rule.specs.Seats.{view}
use Rattle.octet_heap.specs.declared.poll.Poll.{Poll}
use Rattle.octet_heap.specs.declared.poll.Poll.TheVariants.{Ready}
use Rattle.octet_heap.specs.Builders.{Accessing}
use Rattle.octet_heap.specs.Calls.{access_to, Polls}
use Rattle.octet_heap.specs.Growth.{read_by}
use Rattle.octet_heap.specs.Models.{worker_model}
use Rattle.octet_heap.specs.OwnersPath.{steps_since}
use Rattle.octet_heap.specs.Recorders.{KeepsSeatAfter}
use Rattle.octet_heap.specs.SlowPath.{is_fast, slow_after}
use Rattle.octet_heap.specs.Waiting.{EndsPoll}
use Rattle.octet_heap.specs.Workers.{seat_of}
use Rattle.octet_heap.proofs.Modelled.{same_standing, standing_after, accesses_by}
use Rattle.octet_heap.proofs.polls.Reading.{can_record, room_to_read, reads_made, reads_pending, slow_most, still_whole, still_room}
use Rattle.octet_heap.proofs.heap.Heap.access_or_begin.Goals as goal

pub start-poll-requires-clause-can : goal.start-poll-requires-clause-can
start-poll-requires-clause-can c = let w = c.args.worker.now in record {
  own = c.requires.own.own;
  object = c.requires.object;
  more = can_record w (let more = c.requires.more in let a = w.recorder.logged.accesses in let b = c.requires.own.same_fuel in omega arith);
}

pub keep_read-requires : goal.keep_read-requires
keep_read-requires c = let w = c.args.worker.now in record {
  room = room_to_read w (let more = c.requires.more in let a = w.recorder.logged.accesses in let b = c.requires.own.same_fuel in omega arith);
}

pub invariant_of-worker : goal.invariant_of-worker
invariant_of-worker c =
    let w = c.args.worker.now in let access = access_to c.args.object c.args.mode c.args.value in
    let r = c.start-poll.new.recorder in let v = seat_of w in let u = view r.seat in
    let more : w.recorder.log.accesses < w.fuel = let more = c.requires.more in let a = w.recorder.logged.accesses in let b = c.requires.own.same_fuel in omega arith in
    let keeps = subst (λ (a : Poll). KeepsSeatAfter c.args.self.now.words a w.recorder r) c.in-Ready.is c.start-poll.ensures.keeps in
    let polls = subst (λ (a : Poll). Polls access v a u) c.in-Ready.is c.start-poll.ensures.polls in record {
      whole = still_whole w c.args.self.now.words _ r keeps;
      reading = c.keep_read.ensures.value ∙ (ap (λ (l : List ℕ). l ++ read_by c.args.mode c.in-Ready.value) w.reading ∙ sym (reads_made access v u c.in-Ready.value polls.journal));
      to_read = let a = w.to_read in let b = c.keep_read.ensures.room in omega arith;
      room = still_room w c.args.self.now.words _ r keeps;
      few = (let a = keeps.counts in omega arith, w.few.1);
      least = let a = keeps.counts in let b = w.least in let d = c.slow_by-worker.ensures in let e = slow_most c.start-poll.result.1 w.slow in omega arith;
    }

pub invariant_of-worker-in-Pending : goal.invariant_of-worker-in-Pending
invariant_of-worker-in-Pending c =
    let w = c.args.worker.now in let access = access_to c.args.object c.args.mode c.args.value in
    let r = c.start-poll.new.recorder in let v = seat_of w in let u = view r.seat in
    let keeps = subst (λ (a : Poll). KeepsSeatAfter c.args.self.now.words a w.recorder r) c.in-Pending.is c.start-poll.ensures.keeps in
    let polls = subst (λ (a : Poll). Polls access v a u) c.in-Pending.is c.start-poll.ensures.polls in record {
      whole = still_whole w c.args.self.now.words _ r keeps;
      reading = w.reading ∙ sym (reads_pending access v u c.in-Pending.why polls.journal);
      to_read = w.to_read;
      room = still_room w c.args.self.now.words _ r keeps;
      few = (let a = keeps.counts in let b = w.few.0 in omega arith, w.few.1);
      least = let a = keeps.counts in let b = w.least in omega arith;
    }

pub returns-in-Ready-clause-slow : goal.returns-in-Ready-clause-slow
returns-in-Ready-clause-slow c = let access = access_to c.args.object c.args.mode c.args.value in
    let v = seat_of c.args.worker.now in let fast = is_fast access v (steps_since v (view c.start-poll.new.recorder.seat)) in let slow = c.args.worker.now.slow in
    c.slow_by-worker.ensures ∙ subst (λ (a : Poll). slow_after a c.start-poll.result.1 slow ≡ slow_after a fast slow) c.in-Ready.is (c.start-poll.ensures.path slow)

pub returns-in-Ready-clause-thread : goal.returns-in-Ready-clause-thread
returns-in-Ready-clause-thread c = let m = c.args.worker.now in let w = view c.start-poll.new.recorder.seat in
    let access = access_to c.args.object c.args.mode c.args.value in
    let ends = subst (λ (a : Poll). EndsPoll access a w) c.in-Ready.is c.start-poll.ensures.ends in
    let stands = same_standing m.pending None m.changing None w.thread.phase phase.Idle c.requires.idle.1 c.requires.idle.2 ends.1 in
    let polls = subst (λ (a : Poll). Polls access (seat_of m) a w) c.in-Ready.is c.start-poll.ensures.polls in
    accesses_by access (Ready c.in-Ready.value) (seat_of m) w (worker_model m).standing _ c.start-poll.ensures.number polls.journal stands

pub returns-in-Pending-clause-thread : goal.returns-in-Pending-clause-thread
returns-in-Pending-clause-thread c = let m = c.args.worker.now in let w = view c.start-poll.new.recorder.seat in
    let access = access_to c.args.object c.args.mode c.args.value in
    accesses_by access c.start-poll.result.0 (seat_of m) w (worker_model m).standing _ c.start-poll.ensures.number c.start-poll.ensures.polls.journal
    (sym (ap (standing_after (Accessing access)) c.in-Pending.is))
