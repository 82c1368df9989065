use Rattle.std.proofs.Common.{◌≡◌, false}
use Rattle.octet_model.specs.Thread.{starting_configuration}
use Rattle.octet_interp.specs.Laws.{IsJournalOf}
use Rattle.octet_rule.specs.Seats.{objects_of}
use Rattle.octet_heap.specs.Workers.{seat_of, IsIdle, IsWorkerOf}
use Rattle.octet_tests_threads.proofs.loop_tests.marked_demands.Given as goal

abbrev pub invariant-loop : goal.invariant-loop
invariant-loop g l = record {
  own : IsWorkerOf l.heap l.worker;
  idle : IsIdle l.worker;
  objects : l.config.objects ≡ objects_of l.heap.words;
  waits : l.config.waits ≡ false;
  kept : IsJournalOf (starting_configuration l.heap.fuel) (seat_of l.worker).journal l.config;
}
