use Rattle.octet_marks.proofs.writer.end.Goals as goal

pub returns : goal.returns
returns c = rw (c.as_slice.ensures.value, c.in_ok-body.ensures) at c.frame.ensures
