use Rattle.std.proofs.Common.{Bool, subst, sym}
use Rattle.octet_clock.specs.LastAccesses.{LieWithin}
use Rattle.octet_clock.specs.Play.{made_by}
use Rattle.octet_clock.proofs.checks.Within.{lie_fewer}
use Rattle.octet_clock.proofs.checker.Checker.follows.Goals as goal

pub returns-then-knows_all : goal.returns-then-knows_all
returns-then-knows_all c = λ is journals play index holds known.
    lie_fewer journals play index c.args.object c.args.writing c.args.thread (made_by play index c.args.thread) (known c.if-knows_all.true)

pub returns : goal.returns
returns c = λ is journals play index holds known.
    subst (λ (w : Bool). LieWithin journals play index c.args.object w c.args.thread (made_by play index c.args.thread)) (sym c.if-writing.false) (c.knows_conflicts.ensures is journals play index holds)
