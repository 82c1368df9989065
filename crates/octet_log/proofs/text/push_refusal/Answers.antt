use Rattle.std.specs.Prelude.{codes}
use Rattle.std.specs.Fmt.{decimal}
use Rattle.octet_log.proofs.Words.{placed}
use Rattle.octet_log.proofs.text.push_refusal.Goals as goal

pub returns-in-BadNumber : goal.returns-in-BadNumber
returns-in-BadNumber c =
    rw c.in-BadNumber.is (placed c.push_place-in-BadNumber.result c.push_place-in-BadNumber.new.out.items c.args.out.now.items (codes "8 bad number at ") (decimal c.in-BadNumber.at) c.push_place-in-BadNumber.ensures)

pub returns-in-GapsOver : goal.returns-in-GapsOver
returns-in-GapsOver c =
    rw (c.in-GapsOver.is, ← c.from.ensures) (placed c.push_place-in-GapsOver.result c.push_place-in-GapsOver.new.out.items c.args.out.now.items (codes "10 gaps over accesses of thread ") (decimal c.from.result) c.push_place-in-GapsOver.ensures)
