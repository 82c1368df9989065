use Rattle.std.proofs.Common.{◌≡◌, ℕ, ◌+◌, ◌<◌, All, length, slice_index_or}
use Rattle.octet_threads.specs.declared.heap.runner.Runner.{Runner}
use Rattle.octet_threads.specs.Runners.{IsAtRest, IsOf}
use Rattle.octet_threads.proofs.runners.Opening.{AreNew}
use Rattle.octet_threads.proofs.heap.running.runners.Given as goal

abbrev pub invariant-loop-worker : goal.invariant-loop-worker
invariant-loop-worker l = record {
  new : AreNew l.heap l.thread l.worker-iterator.rest.items;
  left : l.thread + length l.worker-iterator.rest.items ≡ length l.script.threads;
  many : length l.runners.items ≡ l.thread;
  rest : All (IsAtRest l.heap) l.runners.items;
  of : (thread : ℕ) (none : Runner) → thread < length l.runners.items → IsOf l.script thread (slice_index_or l.runners.items thread none);
}
