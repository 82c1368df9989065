use Rattle.std.proofs.Common.{◌≡◌, true, Some}
use Rattle.std.specs.Option.{is_some}
use Rattle.octet_heap.specs.declared.pending_access.PendingAccess.{PendingAccess}
use Rattle.octet_heap.specs.Workers.{seat_of, IsWorkerOf}
use Rattle.octet_heap.specs.Walks.{access_task}
use Rattle.octet_threads.proofs.tasks.Doing.{HasGone}
use Rattle.octet_threads.proofs.tasks.Polling.{AddsMarks}
use Rattle.octet_threads.proofs.heap.carrying.make.Given as goal

abbrev pub invariant-loop : goal.invariant-loop
invariant-loop g l = record {
  own : IsWorkerOf l.heap l.worker;
  begun : is_some l.worker.pending ≡ true;
  pending : l.worker.pending ≡ l.initial.worker.pending;
  number : (seat_of l.worker).number ≡ (seat_of l.initial.worker).number;
  goes : (access : PendingAccess) → l.initial.worker.pending ≡ Some access → HasGone (access_task access) (seat_of l.initial.worker) (seat_of l.worker);
  adds : (access : PendingAccess) → l.initial.worker.pending ≡ Some access → AddsMarks (seat_of l.initial.worker) (seat_of l.worker);
}
