use Rattle.std.proofs.Common.{arith, below_more}
use Rattle.std.proofs.lemmas.Option.{slice_get_within}
use Rattle.octet_outcomes.proofs.quiet.is_quiet_from.Goals as goal

pub loop-place-preserved : goal.loop-place-preserved
loop-place-preserved c = below_more _ _ c.loop-place.invariant (c.is_quiet_at.ensures c.if-not-is_quiet_at.false)

pub returns : goal.returns
returns c _ = record {
  none = λ place command past at. (c.loop-place.invariant place (omega (arith, slice_get_within c.args.commands.now place command at, c.loop-place-test.false))).none command past at;
  over = λ place command below at. (c.loop-place.invariant place (omega (arith, slice_get_within c.args.commands.now place command at, c.loop-place-test.false))).over command below at;
}
