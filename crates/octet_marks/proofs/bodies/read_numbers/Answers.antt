use Rattle.std.proofs.Common.{◌∙◌, arith}
use Rattle.octet_marks.specs.Bodies.{numbers_at}
use Rattle.octet_marks.proofs.Parts.{numbers_go, numbers_end}
use Rattle.octet_marks.proofs.bodies.read_numbers.Goals as goal

pub loop-preserved : goal.loop-preserved
loop-preserved c = record {
  read = rw (c.in_ok-push.ensures.items, c.split_at.ensures.back, c.number_in.ensures, c.split_at.ensures.front)
      (numbers_go c.loop.numbers.items (numbers_at c.args.count c.args.bytes.now) c.args.count c.loop.counter c.loop.rest.now c.loop-test.true c.loop.invariant.read);
  left = omega (arith, c.split_at.ensures.back_len, c.loop.invariant.left);
}

pub returns : goal.returns
returns c =
    c.from_vec.ensures
    ∙ numbers_end c.loop.numbers.items (numbers_at c.args.count c.args.bytes.now) c.args.count c.loop.counter c.loop.rest.now c.loop-test.false c.loop.invariant.read
