use Rattle.std.proofs.Common.{rules, ◌≡◌, [], List, ℕ, sym, subst}
use Rattle.octet_window.specs.declared.course.Step.{Step}
use Rattle.octet_window.specs.Courses.{IsCourse}
use Rattle.octet_window.proofs.Courses.{course_begins}
use Rattle.octet_window.proofs.course.Course.new.Goals as goal

pub returns : goal.returns
returns c =
    let made : List ℕ = c.in_ok-none_made.field-0.items in
    let none : c.new.result.items ≡ [] = search rules in
    subst (λ (l : List Step). IsCourse c.args.threads.now l made 0) (sym none) (course_begins c.args.threads.now made c.in_ok-none_made.ensures)
