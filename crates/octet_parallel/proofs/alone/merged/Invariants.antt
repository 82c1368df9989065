use Rattle.std.proofs.Common.{◌≡◌, ℕ, ◌<◌, ◌≤◌, length, slice_index}
use Rattle.octet_model.specs.Orders.{starting_heap}
use Rattle.octet_parallel.specs.Alone.{IsMergedAt}
use Rattle.octet_parallel.proofs.alone.merged.Given as goal

abbrev pub invariant-loop-object : goal.invariant-loop-object
invariant-loop-object l = record {
  as_many : length l.heap.items ≡ length (starting_heap l.script);
  before : (k : ℕ) → k < l.object → IsMergedAt (starting_heap l.script) l.threads k (slice_index l.heap.items k);
  past : (k : ℕ) → l.object ≤ k → slice_index l.heap.items k ≡ slice_index (starting_heap l.script) k;
}
