use Rattle.octet_threads.specs.Runners.{IsAtWork, IsSame}
use Rattle.octet_threads.proofs.heap.runner.Runner.run.Given as goal

abbrev pub invariant-loop : goal.invariant-loop
invariant-loop g l = record {
  work : IsAtWork l.heap l.self;
  same : IsSame l.fn.self l.self;
}
