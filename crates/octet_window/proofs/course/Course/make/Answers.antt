use Rattle.std.proofs.Common.{◌≡◌, ◌+◌, ◌++◌, [], ◌∷◌, ℕ, List, get_or, slice_set, sym, ap, ◌∙◌, subst, arith}
use Rattle.octet_window.specs.declared.course.Step.{Step}
use Rattle.octet_window.specs.Courses.{event_next, no_note, notes_of, IsCourse}
use Rattle.octet_window.proofs.Courses.{course_on}
use Rattle.octet_window.proofs.Steps.{read_is}
use Rattle.octet_window.proofs.course.Course.make.Goals as goal

pub returns-clause-course : goal.returns-clause-course
returns-clause-course c =
    let course = c.requires.course in
    let old = c.args.self.now in
    let threads = c.args.threads.now in
    let t = c.args.thread in
    let made : List ℕ = old.made.items in
    let k = c.index-place.result.now in
    let at = read_is made t k (omega (arith, c.requires.there, course.counted)) c.index-place.ensures in
    let e = c.event_of-event.result in
    let is_e : e ≡ event_next threads made t = c.event_of-event.ensures.event ∙ ap (λ (n : ℕ). (get_or (notes_of threads t) n no_note).event) (sym at) in
    subst (λ (l : List Step). IsCourse threads l (slice_set made t (k + 1)) c.draws_with-draws.result) (sym c.in_ok-push.ensures.items)
    (subst (λ (n : ℕ). IsCourse threads (old.steps.items ++ record { thread = t; event = e } ∷ []) (slice_set made t (k + 1)) n) (sym c.draws_with-draws.ensures)
    (course_on threads old.steps.items made old.draws course t k e c.requires.there c.requires.next at is_e))
