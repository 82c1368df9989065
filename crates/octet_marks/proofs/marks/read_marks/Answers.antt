use Rattle.std.proofs.Common.{◌∙◌, length, sym}
use Rattle.octet_marks.specs.Marks.{marks_of}
use Rattle.octet_marks.proofs.Loops.{at_end, too_many, no_mark, goes_on}
use Rattle.octet_marks.proofs.marks.read_marks.Goals as goal

pub returns-then-is_empty : goal.returns-then-is_empty
returns-then-is_empty c = rw c.from_vec.ensures (at_end _ c.loop.marks.items c.loop.rest.now (marks_of c.args.bytes.now) (sym c.is_empty.ensures ∙ c.if-is_empty.true) c.loop.invariant)

pub returns-in_default : goal.returns-in_default
returns-in_default c =
    no_mark (length c.args.bytes.now) c.loop.counter c.loop.marks.items c.loop.rest.now (marks_of c.args.bytes.now) c.loop-test.true (sym c.is_empty.ensures ∙ c.if-is_empty.false)
    (sym (rw (c.in_default.is, c.as_slice.ensures.value) at c.read_mark.ensures)) c.loop.invariant

pub loop-preserved : goal.loop-preserved
loop-preserved c =
    rw c.in_ok-push.ensures.items
    (goes_on (length c.args.bytes.now) c.loop.counter c.loop.marks.items c.loop.rest.now c.in-Some.gapped c.in-Some.after.now (marks_of c.args.bytes.now) c.loop-test.true (sym c.is_empty.ensures ∙ c.if-is_empty.false)
    (sym (rw (c.in-Some.is, c.as_slice.ensures.value) at c.read_mark.ensures)) c.loop.invariant)

pub returns-then-not-is_empty : goal.returns-then-not-is_empty
returns-then-not-is_empty c = too_many (length c.args.bytes.now) c.loop.counter c.loop.marks.items c.loop.rest.now (marks_of c.args.bytes.now) c.loop-test.false (sym c.is_empty-2.ensures ∙ c.if-not-is_empty.true) c.loop.invariant

pub returns : goal.returns
returns c = rw c.from_vec-2.ensures (at_end _ c.loop.marks.items c.loop.rest.now (marks_of c.args.bytes.now) (sym c.is_empty-2.ensures ∙ c.if-not-is_empty.false) c.loop.invariant)
