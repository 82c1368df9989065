use Rattle.std.proofs.Common.{ℕ, Option, refl, sym, subst, arith}
use Rattle.octet_model.specs.declared.event.Mark.{Mark}
use Rattle.octet_model.specs.declared.event.Mark.TheVariants.{Draw, Fence}
use Rattle.octet_model.specs.declared.event.Event.TheVariants.{Marked}
use Rattle.octet_clock.specs.declared.sources.Prefix.{Prefix}
use Rattle.octet_clock.specs.Sources.{IsNextStep, IsSource, TakesIn}
use Rattle.octet_clock.proofs.pasts.Taken.{join_source, join_fits, waited_takes_in, draw_number}
use Rattle.octet_clock.proofs.sources.source_of.Goals as goal

pub returns-in-Ok : goal.returns-in-Ok
returns-in-Ok c = λ journals play index thread next keeps.
    let next' = subst (λ (m : Mark). IsNextStep journals play index thread (Marked m)) c.in-Join.is next in
    let same = (c.in-Ok.ensures).1 in
    subst (λ (n : ℕ). IsSource journals play index thread (record { thread = c.in-Join.from; count = n })) (sym same) (join_source journals play index thread c.in-Join.from c.in-Join.upto next')

pub returns-in-Err : goal.returns-in-Err
returns-in-Err c = λ journals play index thread next keeps.
    let next' = subst (λ (m : Mark). IsNextStep journals play index thread (Marked m)) c.in-Join.is next in
    absurd (c.in-Err.ensures (join_fits journals play index thread c.in-Join.from c.in-Join.upto next'))

pub returns-in-Draw : goal.returns-in-Draw
returns-in-Draw c = λ journals play index thread next keeps.
    let next' = subst (λ (m : Mark). IsNextStep journals play index thread (Marked m)) c.in-Draw.is next in
    let some = draw_number journals play index thread next.whole c.in-Draw.number next'.step in
    subst (λ (o : Option Prefix). TakesIn journals play index thread o) (sym c.draw_of.ensures)
    (waited_takes_in journals play index thread next.whole (Draw c.in-Draw.number) c.saturating_sub.result _ (omega (arith, some, c.saturating_sub.ensures)) next'.step keeps)

pub returns-in-Fence : goal.returns-in-Fence
returns-in-Fence c = λ journals play index thread next keeps.
    let next' = subst (λ (m : Mark). IsNextStep journals play index thread (Marked m)) c.in-Fence.is next in
    subst (λ (o : Option Prefix). TakesIn journals play index thread o) (sym c.draw_of-in-Fence.ensures)
    (waited_takes_in journals play index thread next.whole (Fence c.in-Fence.number) c.in-Fence.number _ refl next'.step keeps)
