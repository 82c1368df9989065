use Rattle.std.proofs.Common.{Option, ◌∙◌, subst}
use Rattle.octet_model.specs.declared.event.Place.{Place}
use Rattle.octet_clock.specs.declared.verdict.Verdict.{Verdict}
use Rattle.octet_clock.specs.declared.verdict.Verdict.TheVariants.{Ordered}
use Rattle.octet_clock.specs.Verdict.{JudgedUpTo, UnorderedConflictIs}
use Rattle.octet_clock.proofs.checks.Taking.{judged_more, judged_unordered}
use Rattle.octet_clock.proofs.checker.Checker.judged.Goals as goal

pub returns-in-None : goal.returns-in-None
returns-in-None c = λ journals play index event next of does holds.
    let judged = subst (λ (v : Verdict). JudgedUpTo journals play index v) c.in-Ordered.is holds.judged in
    judged_more journals play index c.args.thread event next Ordered judged
    (subst (λ (o : Option Place). UnorderedConflictIs journals play index o) c.in-None.is (c.unordered_conflict.ensures journals play index event next of does holds))

pub returns-in-Some : goal.returns-in-Some
returns-in-Some c = λ journals play index event next of does holds.
    let judged = subst (λ (v : Verdict). JudgedUpTo journals play index v) c.in-Ordered.is holds.judged in
    judged_unordered journals play index c.args.thread event next c.in-Some.first _ judged (c.count.ensures ∙ holds.made c.args.thread)
    (subst (λ (o : Option Place). UnorderedConflictIs journals play index o) c.in-Some.is (c.unordered_conflict.ensures journals play index event next of does holds))
