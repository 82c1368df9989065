use Rattle.std.proofs.Common.{◌≡◌, ◌⊎◌, ℕ, ◌<◌, ◌≤◌, length}
use Rattle.octet_replay.specs.Needs.{no_counts}
use Rattle.octet_replay.specs.WaitingLists.{counts_of, IsPlaced, IsSized}
use Rattle.octet_replay.proofs.waits.Waits.new.Given as goal

abbrev pub invariant-loop-thread : goal.invariant-loop-thread
invariant-loop-thread l = record {
  sized : IsSized l.lists;
  counts_are : counts_of l.lists ≡ no_counts l.needs;
  placed : (any : ℕ) → (any < l.thread) ⊎ (length l.needs ≤ any) → IsPlaced l.lists any;
}
