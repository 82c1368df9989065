use Rattle.std.proofs.Common.{ℕ, ◌<◌, ◌≤◌, length, get_or}
use Rattle.octet_model.specs.Orders.{commands_of}
use Rattle.octet_outcomes.specs.Moments.{stand_in, no_moment}
use Rattle.octet_outcomes.proofs.endings.are_done.Given as goal

abbrev pub invariant-loop-thread : goal.invariant-loop-thread
invariant-loop-thread l = (thread : ℕ) → thread < l.thread → length (commands_of l.script thread) ≤ (stand_in (get_or l.found.moments.moments l.place no_moment) thread).place
