use Rattle.std.proofs.Common.{ℕ, ◌≡◌, [], List, length, refl, sym, ap, subst, arith}
use Rattle.std.proofs.lemmas.List.{get_or_past}
use Rattle.std.proofs.lemmas.Option.{slice_get_read}
use Rattle.octet_model.specs.declared.event.Event.{Event}
use Rattle.octet_clock.specs.Past.{IsPastOf}
use Rattle.octet_clock.specs.Play.{made_by}
use Rattle.octet_clock.proofs.pasts.Known.{past_of_none}
use Rattle.octet_clock.proofs.pasts.Taken.{made_within}
use Rattle.octet_clock.proofs.sources.clock_after.Goals as goal

pub returns-then-thread-marks : goal.returns-then-thread-marks
returns-then-thread-marks c = λ journals play index whole within keeps le.
    let one = keeps.each c.args.thread c.index-marks-thread.result (slice_get_read c.args.marks.now _ c.args.thread c.index-marks-thread.result refl c.if-thread-marks.true c.index-marks-thread.is) in
    c.clock_after.ensures journals (made_by play index c.args.thread) one le (made_within journals play whole index c.args.thread within)

pub returns-else-thread-marks : goal.returns-else-thread-marks
returns-else-thread-marks c = λ journals play index whole within keeps le.
    let made = made_within journals play whole index c.args.thread within in
    let none = get_or_past journals c.args.thread [] (omega (arith, keeps.as_many)) in
    let zero : c.args.count ≡ 0 = omega (arith, ap (λ (j : List Event). length j) none) in
    subst (λ (n : ℕ). IsPastOf journals c.args.thread n c.new.result) (sym zero) (past_of_none journals c.args.thread c.new.result c.new.ensures.knows_none)
