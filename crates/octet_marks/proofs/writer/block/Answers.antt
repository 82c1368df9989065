use Rattle.octet_marks.proofs.Parts.{block_fits}
use Rattle.octet_marks.proofs.writer.block.Goals as goal

pub frame-requires : goal.frame-requires
frame-requires c =
    rw (c.as_slice.ensures.value, c.in_ok-body.ensures)
    (block_fits (record { thread = c.args.thread; first = c.args.first; marks = c.args.marks.now; gap = c.args.gap; digest = c.args.digest }) c.requires)

pub returns : goal.returns
returns c = rw (c.as_slice.ensures.value, c.in_ok-body.ensures) at c.frame.ensures
