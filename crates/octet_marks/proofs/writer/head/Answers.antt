use Rattle.octet_marks.proofs.Parts.{head_fits}
use Rattle.octet_marks.proofs.writer.head.Goals as goal

pub frame-requires : goal.frame-requires
frame-requires c = rw (c.as_slice.ensures.value, c.in_ok-body.ensures.bytes) (head_fits c.args.head.now c.in_ok-body.ensures.length c.requires.objects)
