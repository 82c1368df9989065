use Rattle.std.proofs.Common.{sym, subst, arith}
use Rattle.std.proofs.lemmas.Bool.{leb-true}
use Rattle.std.proofs.lemmas.Option.{slice_get-get_or}
use Rattle.octet_model.specs.declared.event.Event.TheVariants.{Marked}
use Rattle.octet_model.specs.declared.event.Mark.{Mark}
use Rattle.octet_model.proofs.lemmas.Pasts.{past_grows}
use Rattle.octet_clock.specs.declared.marks.Marks.{Marks}
use Rattle.octet_clock.specs.Past.{HasPast, KeepsMarks}
use Rattle.octet_clock.specs.Play.{made_by}
use Rattle.octet_clock.specs.Sources.{IsNextStep}
use Rattle.octet_clock.proofs.pasts.Taken.{join_source, known_adds_nothing}
use Rattle.octet_clock.proofs.checks.Taking.{marks_stay}
use Rattle.octet_clock.proofs.sources.joins_known.Goals as goal

pub returns-in-Join-clause-stay : goal.returns-in-Join-clause-stay
returns-in-Join-clause-stay c = λ is journals play index next marks.
    let t = c.args.thread in
    let from = c.in-Join.from in
    let upto = c.in-Join.upto in
    let next' = subst (λ (m : Mark). IsNextStep journals play index t (Marked m)) c.in-Join.is next in
    let at_t = slice_get-get_or c.args.marks.now t c.index-marks-thread.result c.requires in
    let kept = marks.each t _ at_t in
    let few = leb-true upto c.from.result is in
    let has : HasPast journals t (made_by play index t) (record { thread = from; count = upto }) = λ place h.
    c.last_known.ensures journals t (made_by play index t) (subst (λ (m : Marks). KeepsMarks journals t (made_by play index t) m) (sym c.index-marks-thread.is) kept) place (past_grows journals from upto c.last_known.result place (omega (arith, few, c.from.ensures)) h) in
    marks_stay journals play index t (Marked c.args.mark) next c.args.marks.now
    (known_adds_nothing journals play index t (record { thread = from; count = upto }) (join_source journals play index t from upto next') has) marks
