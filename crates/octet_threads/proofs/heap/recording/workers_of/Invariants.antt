use Rattle.std.proofs.Common.{◌≡◌, map}
use Rattle.octet_threads.proofs.heap.recording.workers_of.Given as goal

abbrev pub invariant-loop-runner : goal.invariant-loop-runner
invariant-loop-runner l = l.workers ≡ map (λ runner. runner.worker) l.yielded
