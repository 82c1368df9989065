use Rattle.std.proofs.Common.{arith}
use Rattle.octet_outcomes.proofs.Going.{left_fewer}
use Rattle.octet_outcomes.proofs.stuck.look.Goals as goal

pub returns-clause-fewer : goal.returns-clause-fewer
returns-clause-fewer c _ = omega (arith, left_fewer c.args.marks.now c.args.place c.requires.there c.if-marks-place.false)
