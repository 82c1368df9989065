use Rattle.std.proofs.Common.{refl}
use Rattle.octet_blocks.proofs.Fed.{lacks_room}
use Rattle.octet_blocks.proofs.reader.BlockReader.give_all.Goals as goal

pub returns-in-Some-give-clause-full : goal.returns-in-Some-give-clause-full
returns-in-Some-give-clause-full c = λ same. lacks_room c.loop-item.self _ c.in-Some.item _ c.in-Some.ensures.some refl c.give.ensures.same.0 c.in-Some-give.ensures.back.1 c.in-Some-give.ensures.full
