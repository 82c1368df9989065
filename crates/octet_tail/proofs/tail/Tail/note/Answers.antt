use Rattle.std.proofs.Common.{refl}
use Rattle.octet_tail.proofs.Tailing.{noted}
use Rattle.octet_tail.proofs.tail.Tail.note.Goals as goal

pub push_reserved-requires : goal.push_reserved-requires
push_reserved-requires c = let some = c.requires.some in let made = c.make_room.ensures.tail some.0 some.1 in made.1

pub returns-clause-tail : goal.returns-clause-tail
returns-clause-tail c = λ accesses is. noted accesses c.make_room.new.self _ c.args.access (let made = c.make_room.ensures.tail accesses is in made.0) refl c.push_reserved.ensures.items c.push_reserved.ensures.capacity

pub returns-clause-room : goal.returns-clause-room
returns-clause-room c = let some = c.requires.some in let made = c.make_room.ensures.tail some.0 some.1 in made.2
