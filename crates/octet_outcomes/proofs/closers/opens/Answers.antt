use Rattle.std.proofs.Common.{arith, sym}
use Rattle.std.proofs.lemmas.Bool.{eqb-true}
use Rattle.octet_outcomes.proofs.Sparing.{opened_there}
use Rattle.octet_outcomes.proofs.closers.opens.Goals as goal

pub returns : goal.returns
returns c same = opened_there c.args.commands.now c.args.ends.now c.args.opener c.args.end _ c.requires (omega arith) (omega arith) (sym c.if-not-is_opener.ensures) (eqb-true _ _ same)
