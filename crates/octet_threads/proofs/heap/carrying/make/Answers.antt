use Rattle.std.proofs.Common.{rules, ◌∙◌}
use Rattle.octet_heap.specs.declared.poll.Poll.TheVariants.{Ready}
use Rattle.octet_heap.specs.Workers.{seat_of}
use Rattle.octet_heap.specs.Walks.{access_task}
use Rattle.octet_threads.proofs.tasks.Doing.{gone_on, gone_and_done}
use Rattle.octet_threads.proofs.tasks.Polling.{pending_goes, ready_does, adds_more, adds_last}
use Rattle.octet_threads.proofs.heap.carrying.make.Goals as goal

pub returns-in-Ready-clause-steps : goal.returns-in-Ready-clause-steps
returns-in-Ready-clause-steps g c = λ access begun.
    let before = seat_of c.loop.worker in
    let made = ready_does access before (seat_of c.poll.new.worker) c.in-Ready.value (c.in-Ready.ensures.polls access (c.loop.invariant.pending ∙ begun)).steps in
    gone_and_done (access_task access) (seat_of c.args.worker.now) before (seat_of c.poll.new.worker) (c.loop.invariant.goes access begun) made

pub returns-in-Ready-clause-journal : goal.returns-in-Ready-clause-journal
returns-in-Ready-clause-journal g c = λ access begun.
    adds_last access (seat_of c.args.worker.now) (seat_of c.loop.worker) (seat_of c.poll.new.worker) (Ready c.in-Ready.value) (c.loop.invariant.adds access begun)
    (c.in-Ready.ensures.polls access (c.loop.invariant.pending ∙ begun)).journal

pub loop-preserved : goal.loop-preserved
loop-preserved g c = record {
  own = search rules;
  begun = search rules;
  pending = search rules;
  number = search rules;
  goes = λ access begun.
      gone_on (access_task access) (seat_of c.args.worker.now) (seat_of c.loop.worker) (seat_of c.poll.new.worker) (c.loop.invariant.goes access begun)
      (pending_goes access (seat_of c.loop.worker) (seat_of c.poll.new.worker) c.in-Pending.why (c.in-Pending.ensures.polls access (c.loop.invariant.pending ∙ begun)).steps);
  adds = λ access begun.
      adds_more access (seat_of c.args.worker.now) (seat_of c.loop.worker) (seat_of c.poll.new.worker) c.in-Pending.why (c.loop.invariant.adds access begun)
      (c.in-Pending.ensures.polls access (c.loop.invariant.pending ∙ begun)).journal;
}
