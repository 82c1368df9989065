use Rattle.std.proofs.Common.{◌∙◌, ◌<◌, ◌-◌, ◌++◌, refl, arith}
use Rattle.octet_log.specs.v2.Short.{short_bytes}
use Rattle.octet_log.proofs.version2.Groups.{room_of_nine, wrote_last, wrote_group, room_left, room_at_last}
use Rattle.octet_marks.proofs.fields.push_short.Goals as goal

pub loop-init : goal.loop-init
loop-init c = record { bytes = refl; small = omega (arith, c.ranges.number.fits, room_of_nine) }

pub returns-then-left-lt128 : goal.returns-then-left-lt128
returns-then-left-lt128 c =
    c.in_ok-push.ensures.items ∙ wrote_last c.loop.out.items (c.args.out.now.items ++ short_bytes c.args.number) (9 - c.loop.counter) c.loop.left c.if-left-lt128.true c.loop.invariant.bytes

pub loop-preserved : goal.loop-preserved
loop-preserved c = record {
  bytes = rw c.in_ok-push-2.ensures.items
      (wrote_group c.loop.out.items (c.args.out.now.items ++ short_bytes c.args.number) c.loop.counter c.loop.left c.loop-test.true c.if-left-lt128.false c.loop.invariant.bytes);
  small = room_left c.loop.counter c.loop.left c.loop-test.true c.loop.invariant.small;
}

pub overflow_cast-left-2 : goal.overflow_cast-left-2
overflow_cast-left-2 c =
    let small : c.loop.left < 128 = room_at_last c.loop.counter c.loop.left c.loop-test.false c.loop.invariant.small in
    record { fits = omega (arith, small) }

pub returns : goal.returns
returns c =
    c.in_ok-push-3.ensures.items
    ∙ wrote_last c.loop.out.items (c.args.out.now.items ++ short_bytes c.args.number) (9 - c.loop.counter) c.loop.left (room_at_last c.loop.counter c.loop.left c.loop-test.false c.loop.invariant.small) c.loop.invariant.bytes
