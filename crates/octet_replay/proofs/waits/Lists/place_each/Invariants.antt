use Rattle.std.proofs.Common.{◌≡◌, ℕ, ◌⊎◌, ◌<◌, true, length}
use Rattle.octet_replay.specs.ThreadSet.{has}
use Rattle.octet_replay.specs.WaitingLists.{counts_of, IsPlaced, IsSized, Keeps}
use Rattle.octet_replay.proofs.waits.Lists.place_each.Given as goal

abbrev pub invariant-loop-thread : goal.invariant-loop-thread
invariant-loop-thread l = record {
  sized : IsSized l.self;
  kept : Keeps (counts_of l.fn.self) l.fn.self l.self;
  placed : (thread : ℕ) → has l.fn.threads thread ≡ true → thread < length l.fn.self.needs.items → (has l.threads thread ≡ true) ⊎ IsPlaced l.self thread;
  others : (other : ℕ) → IsPlaced l.fn.self other → IsPlaced l.self other;
}

abbrev pub decreases-loop-thread : goal.decreases-loop-thread
decreases-loop-thread l = l.threads.bits
