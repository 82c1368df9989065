use Rattle.octet_heap.specs.Models.{worker_model}
use Rattle.octet_heap.specs.Updates.{answer_after, update_to}
use Rattle.octet_heap.specs.Workers.{seat_of}
use Rattle.octet_heap.proofs.Modelled.{changes_by, idle_worker, after_update, worker_updates}
use Rattle.octet_heap.proofs.heap.Heap.update.Goals as goal

pub returns-in-None-clause-stands : goal.returns-in-None-clause-stands
returns-in-None-clause-stands c = let e = c.begin_update.ensures in
    worker_updates (answer_after c.args.change c.begin_update.result) c.begin_update.new.worker (update_to c.args.object c.args.change) e.idle e.changing

pub returns-in-None-clause-thread : goal.returns-in-None-clause-thread
returns-in-None-clause-thread c = let m = c.args.worker.now in let n = c.begin_update.new.worker in let e = c.begin_update.ensures in
    let update = update_to c.args.object c.args.change in let answer = answer_after c.args.change c.begin_update.result in
    changes_by update c.begin_update.result (seat_of m) (seat_of n) (worker_model m).standing (worker_model n).standing e.number e.polls.journal
    (after_update answer n.pending n.changing (seat_of n).thread.phase update (idle_worker answer n e.idle) e.pending e.changing)

pub returns-in-Some-clause-stands : goal.returns-in-Some-clause-stands
returns-in-Some-clause-stands c = let e = c.go_on_with_update.ensures in
    worker_updates (answer_after c.args.change c.go_on_with_update.result) c.go_on_with_update.new.worker (update_to c.args.object c.args.change) e.idle e.changing

pub returns-in-Some-clause-thread : goal.returns-in-Some-clause-thread
returns-in-Some-clause-thread c = let m = c.args.worker.now in let n = c.go_on_with_update.new.worker in let e = c.go_on_with_update.ensures in
    let update = update_to c.args.object c.args.change in let answer = answer_after c.args.change c.go_on_with_update.result in
    changes_by update c.go_on_with_update.result (seat_of m) (seat_of n) (worker_model m).standing (worker_model n).standing e.number e.polls.journal
    (after_update answer n.pending n.changing (seat_of n).thread.phase update (idle_worker answer n e.idle) e.pending e.changing)
