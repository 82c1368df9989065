use Rattle.std.proofs.Common.{ℕ, ◌<◌}
use Rattle.octet_window.specs.Courses.{MayGoOn}
use Rattle.octet_window.proofs.course.Course.next.Given as goal

abbrev pub invariant-loop-thread : goal.invariant-loop-thread
invariant-loop-thread l = (thread : ℕ) → thread < l.thread → MayGoOn l.threads l.self.made.items l.self.draws thread → ⊥
