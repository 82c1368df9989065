use Rattle.std.proofs.Common.{◌≡◌, ◌≢◌, ℕ, ◌<◌, Some, slice_get}
use Rattle.octet_regions.specs.declared.region.Hop.{Hop}
use Rattle.octet_regions.proofs.walk.from_thread.Given as goal

abbrev pub invariant-loop-first : goal.invariant-loop-first
invariant-loop-first l = (i : ℕ) (hop : Hop) → i < l.first → slice_get l.hops i ≡ Some hop → hop.after.thread ≢ l.thread
