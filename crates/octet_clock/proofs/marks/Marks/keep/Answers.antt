use Rattle.std.proofs.Common.{refl}
use Rattle.octet_clock.proofs.pasts.KeptMarks.{keeps_mark}
use Rattle.octet_clock.proofs.marks.Marks.keep.Goals as goal

pub returns : goal.returns
returns c = λ journals thread past keeps.
    keeps_mark journals thread c.args.event c.args.self.now keeps _ c.args.clock.now c.first.result.now refl c.in_ok-push.ensures.items c.in_ok-extend_from_slice.ensures.items c.first.ensures.many c.first.ensures.each past
