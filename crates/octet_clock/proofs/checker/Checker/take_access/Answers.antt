use Rattle.std.proofs.Common.{◌≡◌, ◌+◌, suc, List, true, ap, sym, subst, arith}
use Rattle.octet_clock.specs.declared.accesses.Accesses.{Accesses}
use Rattle.octet_clock.specs.declared.checker.Checker.{Checker}
use Rattle.octet_clock.specs.declared.clock.Clock.{Clock}
use Rattle.octet_clock.specs.declared.marks.Marks.{Marks}
use Rattle.octet_clock.specs.declared.sources.Prefix.{Prefix}
use Rattle.octet_clock.specs.declared.verdict.Verdict.{Verdict}
use Rattle.octet_clock.specs.Accesses.{AreNoted}
use Rattle.octet_clock.specs.Clock.{IsRaised}
use Rattle.octet_clock.specs.LastAccesses.{LieWithin}
use Rattle.octet_clock.specs.Play.{made_by}
use Rattle.octet_clock.specs.Sources.{KeepsAllMarks, KeepsDraws}
use Rattle.octet_clock.specs.Verdict.{JudgedUpTo}
use Rattle.octet_clock.proofs.checks.Taking.{made_stays, marks_on_access, draws_on_access}
use Rattle.octet_clock.proofs.checks.Noting.{accesses_on_access}
use Rattle.octet_clock.proofs.checks.Within.{judged_within}
use Rattle.octet_clock.proofs.checker.Checker.take_access.Goals.{then-not-follows, else-not-follows}
use Rattle.octet_clock.proofs.checker.Checker.take_access.Goals as goal

pub returns-clause-taken : goal.returns-clause-taken
returns-clause-taken c = λ event of does journals play index next holds.
    let t = c.args.thread in
    let old = c.args.self.now in
    let mid = c.if-not-follows.self in
    let known : c.knows_conflicts-knows_all.result ≡ true → LieWithin journals play index c.args.object true t (made_by play index t) = λ is. c.knows_conflicts-knows_all.ensures is journals play index holds in
    let made_is : mid.made ≡ old.made = elim c.if-not-follows.branch [ then-not-follows w ↦ ap (λ (x : Checker). x.made) w.self-is | else-not-follows w ↦ ap (λ (x : Checker). x.made) w.self-is ] in
    let marks_is : mid.marks.items ≡ old.marks.items = elim c.if-not-follows.branch [ then-not-follows w ↦ ap (λ (x : Checker). x.marks.items) w.self-is | else-not-follows w ↦ ap (λ (x : Checker). x.marks.items) w.self-is ] in
    let draws_is : mid.draws.items ≡ old.draws.items = elim c.if-not-follows.branch [ then-not-follows w ↦ ap (λ (x : Checker). x.draws.items) w.self-is | else-not-follows w ↦ ap (λ (x : Checker). x.draws.items) w.self-is ] in
    let accesses_is : mid.accesses ≡ old.accesses = elim c.if-not-follows.branch [ then-not-follows w ↦ ap (λ (x : Checker). x.accesses) w.self-is | else-not-follows w ↦ ap (λ (x : Checker). x.accesses) w.self-is ] in
    let raised = subst (λ (x : Clock). IsRaised x t (c.count-count.result + 1) c.raise.new.self) made_is c.raise.ensures in
    let noted = subst (λ (x : Accesses). AreNoted x.objects.items c.args.object c.args.writing t (c.count-count.result + 1) c.knows_conflicts-knows_all.result c.note.new.self.objects.items) accesses_is c.in_ok-note.ensures in
    record {
      made = made_stays journals play index t event next old.made c.raise.new.self (c.count-count.result + 1) holds.made (omega (arith, c.count-count.ensures)) raised;
      marks = subst (λ (x : List Marks). KeepsAllMarks journals play (suc index) x) (sym marks_is) (marks_on_access journals play index t event next old.marks.items c.args.object of holds.marks);
      draws = subst (λ (x : List Prefix). KeepsDraws journals play (suc index) x) (sym draws_is) (draws_on_access journals play index t event next old.draws.items c.args.object of holds.draws);
      accesses =
          accesses_on_access journals play index t event next c.args.object (c.count-count.result + 1) c.args.writing c.knows_conflicts-knows_all.result old.accesses c.note.new.self
          (omega (arith, c.count-count.ensures, holds.made t)) of does noted known holds.accesses;
      judged = elim c.if-not-follows.branch [
        | then-not-follows w ↦ subst (λ (v : Verdict). JudgedUpTo journals play (suc index) v) (sym (ap (λ (x : Checker). x.verdict) w.self-is)) (w.judged-self.ensures journals play index event next of does holds)
        | else-not-follows w ↦
            let follows = c.follows.ensures w.if-not-follows.false journals play index holds known in
            subst (λ (v : Verdict). JudgedUpTo journals play (suc index) v) (sym (ap (λ (x : Checker). x.verdict) w.self-is)) (judged_within journals play index t event next c.args.object of c.args.writing old.verdict does follows holds.judged)
      ];
    }
