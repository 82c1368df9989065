use Rattle.std.proofs.Common.{◌≤◌, ℕ, suc, Option, refl, sym, subst}
use Rattle.std.proofs.lemmas.Option.{slice_get_read}
use Rattle.std.proofs.lemmas.Result.{on_ok_weaker}
use Rattle.octet_model.specs.declared.event.Event.TheVariants.{Marked}
use Rattle.octet_clock.specs.declared.marks.Marks.{Marks}
use Rattle.octet_clock.specs.declared.sources.Prefix.{Prefix}
use Rattle.octet_clock.specs.Past.{KeepsMarks}
use Rattle.octet_clock.specs.Play.{made_by}
use Rattle.octet_clock.specs.Sources.{TakesIn}
use Rattle.octet_clock.proofs.pasts.Taken.{known_adds_nothing}
use Rattle.octet_clock.proofs.checks.Taking.{marks_stay, marks_with}
use Rattle.octet_clock.proofs.sources.keep_mark.Goals as goal

pub returns-in_default : goal.returns-in_default
returns-in_default c = λ journals play index next draws marks is.
    let t = c.args.thread in
    let nothing = subst (λ (o : Option Prefix). TakesIn journals play index t o) c.in_default.is (c.source_of.ensures journals play index t next draws) in
    marks_stay journals play index t (Marked c.args.mark) next c.args.marks.now nothing marks

pub returns-then-knows : goal.returns-then-knows
returns-then-knows c = λ journals play index next draws marks is.
    let t = c.args.thread in
    let first = c.in-Some.first in
    let source = subst (λ (o : Option Prefix). TakesIn journals play index t o) c.in-Some.is (c.source_of.ensures journals play index t next draws) in
    let at_t = slice_get_read c.args.marks.now _ t c.index-marks-thread.result refl c.requires.thread c.index-marks-thread.is in
    let kept = subst (λ (m : Marks). KeepsMarks journals t (made_by play index t) m) c.index-marks-thread.is (marks.each t c.index-marks-thread.result at_t) in
    let known = c.if-knows.ensures refl journals (made_by play index t) kept (λ same. subst (λ (u : ℕ). first.count ≤ made_by play index u) same source.made) in
    marks_stay journals play index t (Marked c.args.mark) next c.args.marks.now (known_adds_nothing journals play index t first source known) marks

pub returns : goal.returns
returns c = on_ok_weaker c.keep.result
    (λ keeps journals play index next draws marks is.
    let t = c.args.thread in
    let event = Marked c.args.mark in
    let source = subst (λ (o : Option Prefix). TakesIn journals play index t o) c.in-Some.is (c.source_of.ensures journals play index t next draws) in
    let past = c.clock_with-clock.ensures journals play index event next source marks is in
    let at_t = slice_get_read c.args.marks.now _ t c.index-marks-thread-2.result refl c.requires.thread c.index-marks-thread-2.is in
    let kept = subst (λ (n : ℕ). KeepsMarks journals t n c.index-marks-thread-2.result) (sym is) (marks.each t c.index-marks-thread-2.result at_t) in
    let kept' = subst (λ (m : Marks). KeepsMarks journals t c.args.count m) c.index-marks-thread-2.is kept in
    let more = keeps journals t past kept' in
    marks_with journals play index t event next c.args.marks.now _ c.keep.new.self (subst (λ (n : ℕ). KeepsMarks journals t (suc n) c.keep.new.self) is more) refl marks)
    c.keep.ensures
