use Rattle.std.proofs.Common.{◌∙◌, refl, arith, ap, rules}
use Rattle.std.specs.Vec.{vec_capacity}
use Rattle.octet_tail.proofs.Tailing.{turned}
use Rattle.octet_tail.proofs.tail.Tail.make_room.Goals as goal

pub returns-then-len-capacity : goal.returns-then-len-capacity
returns-then-len-capacity c = record { tail = λ accesses is. (is, omega (arith, c.if-len-capacity.true, c.len.ensures, c.capacity.ensures), refl) }

pub returns : goal.returns
returns c = record {
  tail = λ accesses is.
      let turn = c.turn.ensures in
      let old = c.args.self.now in (
        turned accesses old c.turn.new.self is (search rules) turn.older turn.none turn.room,
        omega (arith, turn.empty, turn.room, is.some),
        ap (λ v. vec_capacity v) turn.older ∙ is.rooms,
      );
}
