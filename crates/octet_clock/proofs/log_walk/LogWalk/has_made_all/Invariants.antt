use Rattle.std.proofs.Common.{◌≡◌, ◌<◌, ℕ, Some, slice_get}
use Rattle.octet_model.specs.Orders.{thread_log_of}
use Rattle.octet_clock.specs.declared.log_walk.Progress.{Progress}
use Rattle.octet_clock.specs.LogWalks.{HasMadeAll}
use Rattle.octet_clock.proofs.log_walk.LogWalk.has_made_all.Given as goal

abbrev pub invariant-loop-thread : goal.invariant-loop-thread
invariant-loop-thread l = (lower : ℕ) → lower < l.thread → (p : Progress) → slice_get l.self.threads.items lower ≡ Some p → HasMadeAll (thread_log_of l.logs lower) p
