use Rattle.std.proofs.Common.{◌≡◌, ℕ, ◌<◌, List, ◌++◌, ◌∙◌, Option, sym, ap, subst, arith}
use Rattle.octet_rule.specs.Seats.{view, objects_of}
use Rattle.octet_heap.specs.declared.pending_access.PendingAccess.{PendingAccess}
use Rattle.octet_heap.specs.declared.poll.Poll.{Poll}
use Rattle.octet_heap.specs.Calls.{Polls}
use Rattle.octet_heap.specs.Growth.{read_by}
use Rattle.octet_heap.specs.OwnersPath.{steps_since}
use Rattle.octet_heap.specs.Recorders.{KeepsSeatAfter}
use Rattle.octet_heap.specs.SlowPath.{is_fast, slow_after}
use Rattle.octet_heap.specs.Standing.{IsAbout, HasFuel, IsWithin}
use Rattle.octet_heap.specs.Workers.{seat_of}
use Rattle.octet_heap.proofs.polls.Begun.{begun_access}
use Rattle.octet_heap.proofs.polls.Reading.{can_record, room_to_read, reads_made, reads_pending, slow_most, still_whole, still_room}
use Rattle.octet_heap.proofs.heap.Heap.poll_access.Goals as goal

pub resume-poll-requires-clause-can : goal.resume-poll-requires-clause-can
resume-poll-requires-clause-can c = let w = c.args.worker.now in let begun = begun_access w.pending w.changing c.args.access c.requires.begun in record {
  own = c.requires.own.own;
  object = subst (IsWithin (objects_of c.args.self.now.words)) begun c.requires.own.within;
  more = can_record w (subst (λ (o : Option PendingAccess). HasFuel o w.recorder.log.accesses w.fuel) begun c.requires.own.fuelled);
}

pub resume-poll-requires-clause-begun : goal.resume-poll-requires-clause-begun
resume-poll-requires-clause-begun c = let w = c.args.worker.now in let v = seat_of w in
    subst (λ (o : Option PendingAccess). IsAbout v.threads o v.thread.phase) (begun_access w.pending w.changing c.args.access c.requires.begun) c.requires.own.about

pub keep_read-requires : goal.keep_read-requires
keep_read-requires c = let w = c.args.worker.now in record {
  room = room_to_read w (subst (λ (o : Option PendingAccess). HasFuel o w.recorder.log.accesses w.fuel) (begun_access w.pending w.changing c.args.access c.requires.begun) c.requires.own.fuelled);
}

pub invariant_of-worker : goal.invariant_of-worker
invariant_of-worker c =
    let w = c.args.worker.now in let access = c.args.access in let r = c.resume-poll.new.recorder in let v = seat_of w in let u = view r.seat in
    let more : w.recorder.log.accesses < w.fuel = subst (λ (o : Option PendingAccess). HasFuel o w.recorder.log.accesses w.fuel) (begun_access w.pending w.changing access c.requires.begun) c.requires.own.fuelled in
    let keeps = subst (λ (a : Poll). KeepsSeatAfter c.args.self.now.words a w.recorder r) c.in-Ready.is c.resume-poll.ensures.keeps in
    let polls = subst (λ (a : Poll). Polls access v a u) c.in-Ready.is c.resume-poll.ensures.polls in record {
      whole = still_whole w c.args.self.now.words _ r keeps;
      reading = c.keep_read.ensures.value ∙ (ap (λ (l : List ℕ). l ++ read_by access.mode c.in-Ready.value) w.reading ∙ sym (reads_made access v u c.in-Ready.value polls.journal));
      to_read = let a = w.to_read in let b = c.keep_read.ensures.room in omega arith;
      room = still_room w c.args.self.now.words _ r keeps;
      few = (let a = keeps.counts in omega arith, w.few.1);
      least = let a = keeps.counts in let b = w.least in let d = c.slow_by-worker.ensures in let e = slow_most c.resume-poll.result.1 w.slow in omega arith;
    }

pub invariant_of-worker-in-Pending : goal.invariant_of-worker-in-Pending
invariant_of-worker-in-Pending c =
    let w = c.args.worker.now in let access = c.args.access in let r = c.resume-poll.new.recorder in let v = seat_of w in let u = view r.seat in
    let keeps = subst (λ (a : Poll). KeepsSeatAfter c.args.self.now.words a w.recorder r) c.in-Pending.is c.resume-poll.ensures.keeps in
    let polls = subst (λ (a : Poll). Polls access v a u) c.in-Pending.is c.resume-poll.ensures.polls in record {
      whole = still_whole w c.args.self.now.words _ r keeps;
      reading = w.reading ∙ sym (reads_pending access v u c.in-Pending.why polls.journal);
      to_read = w.to_read;
      room = still_room w c.args.self.now.words _ r keeps;
      few = (let a = keeps.counts in let b = w.few.0 in omega arith, w.few.1);
      least = let a = keeps.counts in let b = w.least in omega arith;
    }

pub returns-in-Ready-clause-slow : goal.returns-in-Ready-clause-slow
returns-in-Ready-clause-slow c = let v = seat_of c.args.worker.now in
    let fast = is_fast c.args.access v (steps_since v (view c.resume-poll.new.recorder.seat)) in let slow = c.args.worker.now.slow in
    c.slow_by-worker.ensures ∙ subst (λ (a : Poll). slow_after a c.resume-poll.result.1 slow ≡ slow_after a fast slow) c.in-Ready.is (c.resume-poll.ensures.path slow)
