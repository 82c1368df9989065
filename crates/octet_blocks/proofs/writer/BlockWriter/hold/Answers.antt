use Rattle.std.proofs.Common.{◌≡◌, None, refl}
use Rattle.octet_blocks.proofs.Written.{gathers_taken}
use Rattle.octet_blocks.proofs.writer.BlockWriter.hold.Goals as goal

pub returns-in-None-clause-gathers : goal.returns-in-None-clause-gathers
returns-in-None-clause-gathers c =
    let none : c.args.self.now.held ≡ None = cc in
    gathers_taken c.args.self.now _ c.take-self.result none c.take-self.ensures.same.0 c.take-self.ensures.same.1 c.take-self.ensures.received c.take-self.ensures.none refl (record { marks = refl; events = refl; ended = refl; bytes = refl })
