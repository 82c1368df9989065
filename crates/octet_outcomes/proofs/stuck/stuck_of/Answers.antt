use Rattle.std.proofs.Common.{◌≡◌, false, ◌<◌, suc, length, get_or, sym, ◌∙◌, subst, arith, add-one}
use Rattle.std.proofs.lemmas.List.{get_or_default}
use Rattle.octet_outcomes.specs.declared.stuck.Stuck.{Stuck}
use Rattle.octet_outcomes.proofs.Going.{AreCounted, count_marked, count_unmarked, is_counted}
use Rattle.octet_outcomes.proofs.stuck.stuck_of.Goals as goal
use Rattle.octet_outcomes.proofs.stuck.stuck_of.Goals.{then-not-index, else-not-index}

pub loop-place-preserved : goal.loop-place-preserved
loop-place-preserved c =
    let marks = c.in_ok-marks.marks.items in
    let place = c.loop-place.place in
    let lt : place < length marks = omega (arith, c.len-place-end.ensures, c.loop-place-test.true) in
    let here : get_or marks place false ≡ c.index.result.now = sym (c.index.ensures ∙ get_or_default marks place c.index.result.now false lt) in
    rw add-one
    (elim c.if-not-index.branch [
      | then-not-index w ↦
          subst (λ (s : Stuck). AreCounted marks (suc place) s) (sym w.stuck-is)
          (count_unmarked marks place c.loop-place.stuck w.count_one-stuck.result (here ∙ w.if-not-index.true) w.count_one-stuck.ensures.count w.count_one-stuck.ensures.start w.count_one-stuck.ensures.later c.loop-place.invariant)
      | else-not-index w ↦
          subst (λ (s : Stuck). AreCounted marks (suc place) s) (sym w.stuck-is)
          (count_marked marks place c.loop-place.stuck (here ∙ w.if-not-index.false) c.loop-place.invariant)
    ])

pub returns : goal.returns
returns c =
    is_counted c.args.script.now c.args.found.now c.in_ok-marks.marks.items c.loop-place.place c.loop-place.stuck c.requires c.in_ok-marks.ensures
    (omega (arith, c.len-place-end.ensures, c.loop-place-test.false, c.loop-place.auto.place-end)) c.loop-place.invariant
