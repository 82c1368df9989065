use Rattle.octet_window.specs.Courses.{IsCourse}
use Rattle.octet_window.proofs.Histories.{left}
use Rattle.octet_window.proofs.course.steps_of.Given as goal

abbrev pub invariant-loop-thread : goal.invariant-loop-thread
invariant-loop-thread l = IsCourse l.threads l.course.steps.items l.course.made.items l.course.draws

abbrev pub decreases-loop-thread : goal.decreases-loop-thread
decreases-loop-thread l = left l.threads l.course.made.items
