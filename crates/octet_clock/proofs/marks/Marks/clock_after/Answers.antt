use Rattle.std.proofs.Common.{ℕ, ◌-◌, ◌<◌, ◌∙◌, length, get_or, ap, arith}
use Rattle.std.proofs.lemmas.Option.{slice_get-get_or}
use Rattle.octet_clock.specs.declared.clock.Clock.{Clock}
use Rattle.octet_clock.specs.Clock.{count_in}
use Rattle.octet_clock.proofs.pasts.KeptMarks.{kept_in_order, past_before_marks, past_after_mark}
use Rattle.octet_clock.proofs.marks.Marks.clock_after.Goals.{then-earlier-eq0, else-earlier-eq0}
use Rattle.octet_clock.proofs.marks.Marks.clock_after.Goals as goal

pub returns : goal.returns
returns c = λ journals now keeps within made.
    let marks = c.args.self.now in
    let earlier = c.kept_before-earlier.result in
    let bound = c.kept_before-earlier.ensures.within in
    let point = c.kept_before-earlier.ensures.point (kept_in_order journals c.args.thread now marks keeps) in
    elim c.if-earlier-eq0.branch [
      | then-earlier-eq0 w ↦
          past_before_marks journals c.args.thread now c.args.upto marks keeps within made earlier bound point c.if-earlier-eq0.known c.raise.new.self w.if-earlier-eq0.true
          (λ u. ap (λ (k : Clock). count_in k u) w.known-is ∙ w.new-known.ensures.knows_none u) c.raise.ensures
      | else-earlier-eq0 w ↦
          let last : ℕ = earlier - 1 in
          let within_kept : last < length marks.events.items = omega (arith, w.if-earlier-eq0.false, bound) in
          past_after_mark journals c.args.thread now c.args.upto marks keeps within made earlier bound point last (get_or marks.events.items last 0) c.if-earlier-eq0.known c.raise.new.self
          (omega (arith, w.if-earlier-eq0.false)) (slice_get-get_or marks.events.items last 0 within_kept)
          (λ u. ap (λ (k : Clock). count_in k u) w.known-is ∙ w.clock_at-known.ensures keeps.few u) c.raise.ensures
    ]
