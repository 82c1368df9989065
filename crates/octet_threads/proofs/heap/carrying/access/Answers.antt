use Rattle.octet_heap.specs.declared.pending_access.PendingAccess.{PendingAccess}
use Rattle.octet_heap.specs.declared.poll.Poll.TheVariants.{Ready}
use Rattle.octet_heap.specs.Workers.{seat_of}
use Rattle.octet_heap.specs.Walks.{access_task}
use Rattle.octet_threads.proofs.tasks.Doing.{gone_and_done}
use Rattle.octet_threads.proofs.tasks.Polling.{pending_goes, ready_does, adds_none, adds_more, adds_last}
use Rattle.octet_threads.proofs.heap.carrying.access.Goals as goal

pub returns-in-Ready-clause-steps : goal.returns-in-Ready-clause-steps
returns-in-Ready-clause-steps g c = let access : PendingAccess = record { object = c.args.object; mode = c.args.mode; value = c.args.value } in
    ready_does access (seat_of c.args.worker.now) (seat_of c.access_or_begin.new.worker) c.in-Ready.value c.in-Ready.ensures.polls.steps

pub returns-in-Pending-clause-steps : goal.returns-in-Pending-clause-steps
returns-in-Pending-clause-steps g c = let access : PendingAccess = record { object = c.args.object; mode = c.args.mode; value = c.args.value } in
    let v = seat_of c.args.worker.now in let u = seat_of c.access_or_begin.new.worker in
    gone_and_done (access_task access) v u (seat_of c.make.new.worker) (pending_goes access v u c.in-Pending.why c.in-Pending.ensures.polls.steps) (c.make.ensures.steps access c.in-Pending.ensures.pending)

pub returns-in-Pending-clause-journal : goal.returns-in-Pending-clause-journal
returns-in-Pending-clause-journal g c = let access : PendingAccess = record { object = c.args.object; mode = c.args.mode; value = c.args.value } in
    let v = seat_of c.args.worker.now in let u = seat_of c.access_or_begin.new.worker in
    adds_last access v u (seat_of c.make.new.worker) (Ready c.make.result) (adds_more access v v u c.in-Pending.why (adds_none v) c.in-Pending.ensures.polls.journal) (c.make.ensures.journal access c.in-Pending.ensures.pending)

pub returns-in-Ready-clause-journal : goal.returns-in-Ready-clause-journal
returns-in-Ready-clause-journal g c = c.in-Ready.ensures.polls.journal
