use Rattle.std.proofs.Common.{◌∙◌, sym}
use Rattle.octet_marks.proofs.Parts.{marks_fail, marks_pass}
use Rattle.octet_marks.proofs.standing.block_after.Goals as goal

pub returns-then-not-are_marks-clause-judged : goal.returns-then-not-are_marks-clause-judged
returns-then-not-are_marks-clause-judged c =
    rw c.into.ensures
    (marks_fail c.args.threads.now c.args.block.now c.in_ok-before.before c.in_ok-before.ensures.judged (sym (rw c.as_slice.ensures at c.are_marks.ensures) ∙ c.if-not-are_marks.true))

pub returns-clause-judged : goal.returns-clause-judged
returns-clause-judged c =
    rw (marks_pass c.args.threads.now c.args.block.now c.in_ok-before.before c.in_ok-before.ensures.judged (sym (rw c.as_slice.ensures at c.are_marks.ensures) ∙ c.if-not-are_marks.false))
    c.advanced.ensures
