use Rattle.std.proofs.Common.{◌≡◌}
use Rattle.octet_heap.specs.Builders.{accesses_of}
use Rattle.octet_heap.specs.Models.{worker_model}
use Rattle.octet_heap.specs.Workers.{IsIdle, IsWorkerOf}
use Rattle.octet_tests_threads.proofs.tool_tests.work.Given as goal

abbrev pub invariant-loop : goal.invariant-loop
invariant-loop g l = record {
  own : IsWorkerOf l.heap l.worker;
  idle : IsIdle l.worker;
  number : (worker_model l.worker).number ≡ (worker_model l.initial.worker).number;
  count : accesses_of (worker_model l.worker) ≡ l.counter;
}
