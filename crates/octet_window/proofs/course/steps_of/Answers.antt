use Rattle.std.proofs.Common.{ℕ, ◌<◌, List, sym, subst, arith}
use Rattle.octet_window.proofs.Courses.{course_ends, course_stops}
use Rattle.octet_window.proofs.Histories.{left, left_less}
use Rattle.octet_window.proofs.course.steps_of.Goals as goal

pub loop-thread-smaller : goal.loop-thread-smaller
loop-thread-smaller c =
    let threads = c.args.threads.now in
    let made : List ℕ = c.loop-thread.course.made.items in
    let t = c.in-Some.thread in
    subst (λ (m : List ℕ). left threads m < left threads made) (sym c.in_ok-make.ensures.made)
    (left_less threads made t (omega (arith, c.in-Some.ensures.there, c.loop-thread.invariant.counted)) c.in-Some.ensures.goes_on.0)

pub returns-then-not-has_made_all-clause-refused : goal.returns-then-not-has_made_all-clause-refused
returns-then-not-has_made_all-clause-refused c =
    let course = c.loop-thread.course in
    course_stops c.args.threads.now course.steps.items course.made.items course.draws c.loop-thread.invariant c.in_default.ensures.none
    (λ all. let no = c.if-not-has_made_all.true in let yes = c.has_made_all.ensures.1 all in cc)

pub returns-clause-all : goal.returns-clause-all
returns-clause-all c =
    let course = c.loop-thread.course in
    course_ends c.args.threads.now course.steps.items course.made.items course.draws c.loop-thread.invariant (c.has_made_all.ensures.0 c.if-not-has_made_all.false)
