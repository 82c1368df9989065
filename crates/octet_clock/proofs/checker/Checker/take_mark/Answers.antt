use Rattle.std.proofs.Common.{◌≡◌, ◌∙◌, ◌++◌, ℕ, suc, List, length, take, ap, sym, refl, subst, arith}
use Rattle.std.proofs.Math.Seq.{take-append_seam}
use Rattle.octet_model.specs.declared.event.Event.TheVariants.{Marked}
use Rattle.octet_clock.specs.declared.marks.Marks.{Marks}
use Rattle.octet_clock.specs.declared.sources.Prefix.{Prefix}
use Rattle.octet_clock.specs.Sources.{KeepsAllMarks, KeepsDraws}
use Rattle.octet_clock.proofs.checks.Taking.{made_stays, draws_on_mark, judged_on_mark}
use Rattle.octet_clock.proofs.checks.Noting.{accesses_on_mark}
use Rattle.octet_clock.proofs.checker.Checker.take_mark.Goals as goal

-- the marks as the call left them
written_back : (marks rest : List Marks) (n : ℕ) → n ≡ length marks → take n (marks ++ rest) ≡ marks
written_back marks rest n is = ap (λ (m : ℕ). take m (marks ++ rest)) is ∙ take-append_seam marks rest

pub returns-clause-taken : goal.returns-clause-taken
returns-clause-taken c = λ journals play index next holds.
    let t = c.args.thread in
    let old = c.args.self.now in
    let event = Marked c.args.mark in
    let is = c.count-count.ensures ∙ holds.made t in
    let draws = subst (λ (d : List Prefix). KeepsDraws journals play index d) (sym c.deref-2.ensures.value) holds.draws in
    let marks = subst (λ (m : List Marks). KeepsAllMarks journals play index m) (sym c.deref_mut.ensures.value) holds.marks in
    let many : old.marks.len ≡ length c.keep_mark.new.marks = omega (arith, c.keep_mark.auto.marks, c.deref_mut.ensures.len) in
    record {
      made = made_stays journals play index t event next old.made c.raise-2.new.self _ holds.made (omega (arith, c.count-count.ensures)) c.raise-2.ensures;
      marks = subst (λ (m : List Marks). KeepsAllMarks journals play (suc index) m) (sym (written_back c.keep_mark.new.marks _ old.marks.len many)) (c.in_ok-keep_mark.ensures journals play index next draws marks is);
      draws = draws_on_mark journals play index t event next c.args.mark old.draws.items c.note_draw.new.draws.items _ refl (omega (arith, c.count-count.ensures, holds.made t)) c.in_ok-note_draw.ensures holds.draws;
      accesses = accesses_on_mark journals play index t event next c.args.mark old.accesses refl holds.accesses;
      judged = judged_on_mark journals play index t event next c.args.mark old.verdict refl holds.judged;
    }

-- a mark that adds nothing leaves marks and draws as they are
pub returns-then-joins_known-clause-taken : goal.returns-then-joins_known-clause-taken
returns-then-joins_known-clause-taken c = λ journals play index next holds.
    let t = c.args.thread in
    let old = c.args.self.now in
    let event = Marked c.args.mark in
    let upto : Prefix = record { thread = t; count = suc c.count-count.result } in
    let marks = subst (λ (m : List Marks). KeepsAllMarks journals play index m) (sym c.deref.ensures.value) holds.marks in
    record {
      made = made_stays journals play index t event next old.made c.raise.new.self _ holds.made (omega (arith, c.count-count.ensures)) c.raise.ensures;
      marks = subst (λ (m : List Marks). KeepsAllMarks journals play (suc index) m) c.deref.ensures.value (c.if-joins_known.ensures.stay refl journals play index next marks);
      draws = draws_on_mark journals play index t event next c.args.mark old.draws.items old.draws.items _ refl (omega (arith, c.count-count.ensures, holds.made t)) (sym (c.if-joins_known.ensures.no_draw refl old.draws.items upto)) holds.draws;
      accesses = accesses_on_mark journals play index t event next c.args.mark old.accesses refl holds.accesses;
      judged = judged_on_mark journals play index t event next c.args.mark old.verdict refl holds.judged;
    }
