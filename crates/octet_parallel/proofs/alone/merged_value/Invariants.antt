use Rattle.std.proofs.Common.{◌≡◌, ℕ, ◌<◌, slice_index, slice_index_or}
use Rattle.octet_parallel.specs.declared.alone.Alone.{Alone}
use Rattle.octet_parallel.proofs.alone.merged_value.Given as goal

abbrev pub invariant-loop-alone : goal.invariant-loop-alone
invariant-loop-alone l = (k : ℕ) (none : Alone) → k < l.alone-index → slice_index (slice_index_or l.threads k none).heap.items l.object ≡ l.start
