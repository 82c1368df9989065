use Rattle.std.proofs.Common.{ℕ, ◌<◌, ◌≤◌, length, get_or}
use Rattle.octet_window.specs.Courses.{notes_of}
use Rattle.octet_window.proofs.course.Course.has_made_all.Given as goal

abbrev pub invariant-loop-thread : goal.invariant-loop-thread
invariant-loop-thread l = (thread : ℕ) → thread < l.thread → length (notes_of l.threads thread) ≤ get_or l.self.made.items thread 0
