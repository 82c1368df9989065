use Rattle.std.proofs.Common.{◌-◌}
use Rattle.octet_model.specs.Orders.{event_total}
use Rattle.octet_clock.specs.Following.{counted}
use Rattle.octet_clock.specs.LogWalks.{WalksAt}
use Rattle.octet_clock.proofs.log_walk.LogWalk.run.Given as goal

abbrev pub invariant-loop-thread : goal.invariant-loop-thread
invariant-loop-thread l = WalksAt l.log.threads l.self

abbrev pub decreases-loop-thread : goal.decreases-loop-thread
decreases-loop-thread l = event_total l.log.threads - counted l.self.waits
