use Rattle.std.proofs.Common.{rules, arith}
use Rattle.octet_model.specs.declared.event.Mark.TheVariants.{Join}
use Rattle.octet_parallel.proofs.players.Noting.{one_noted}
use Rattle.octet_parallel.proofs.draws.note_all.Goals as goal

pub note_next-place-requires : goal.note_next-place-requires
note_next-place-requires c = let a = c.loop-next.invariant.small in search rules

pub loop-next-preserved : goal.loop-next-preserved
loop-next-preserved c = let a = c.loop-next.invariant.small in let b = c.note_next-place.ensures.near in record {
  small = omega (arith, a, b);
  rest = one_noted _ _ c.args.thread c.loop-next.place c.note_next-place.result c.loop-next.next c.args.marks.now (record { gap = 0; mark = Join 0 0 }) _ c.note_next-place.ensures.draws c.note_next-place.ensures.place (search rules) c.loop-next.invariant.rest;
}
