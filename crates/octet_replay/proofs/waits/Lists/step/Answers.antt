use Rattle.std.proofs.Common.{◌≡◌, ◌<◌, ℕ, inl, inr, Some, refl, sym, ap, ◌∙◌, subst, length, arith, length-set, slice_get, slice_set}
use Rattle.std.proofs.lemmas.Bool.{cases_eq}
use Rattle.std.proofs.lemmas.List.{get_or-set_same}
use Rattle.std.proofs.lemmas.Option.{slice_get-get_or}
use Rattle.std.specs.Vec.{with_item}
use Rattle.octet_replay.specs.declared.need.Need.{Need}
use Rattle.octet_replay.specs.declared.waits.Lists.{Lists}
use Rattle.octet_replay.specs.Needs.{NeedsAndCounts}
use Rattle.octet_replay.specs.WaitingLists.{IsPlaced, IsSized, ArePlacedBut}
use Rattle.octet_replay.proofs.Placing.{need_placed}
use Rattle.octet_replay.proofs.waits.Lists.step.Goals as goal
use Rattle.octet_replay.proofs.waits.Lists.step.Goals.{then-draw, else-draw}

counted : (c : goal.After-settle) → ArePlacedBut c.count_events.new.self c.args.thread
counted c thread differ =
    let l = c.args.self.now in
    c.count_events.ensures.placed thread
    (need_placed l (record l { needs = with_item l.needs c.args.thread c.args.next }) c.args.thread c.args.next refl refl (λ other need is. is) refl refl thread differ (c.requires.placed thread))

pub settle-requires-clause-sized : goal.settle-requires-clause-sized
settle-requires-clause-sized c =
    elim c.if-draw.branch [
      | then-draw w ↦ subst (λ (l : Lists). IsSized l) (sym w.self-is) w.count_draw.ensures.sized
      | else-draw w ↦ subst (λ (l : Lists). IsSized l) (sym w.self-is) c.count_events.ensures.sized
    ]

-- the need that was written is still the thread's
pub settle-requires-clause-its : goal.settle-requires-clause-its
settle-requires-clause-its c =
    let l = c.args.self.now in
    let thread : ℕ = c.args.thread in
    let within : thread < length (slice_set l.needs.items thread c.args.next) = omega (arith, length-set l.needs.items thread c.args.next, c.requires.within) in
    let written : slice_get (slice_set l.needs.items thread c.args.next) thread ≡ Some c.args.next =
    slice_get-get_or (slice_set l.needs.items thread c.args.next) thread c.args.next within ∙ ap (λ (n : Need). Some n) (get_or-set_same l.needs.items thread c.args.next c.args.next c.requires.within) in
    let event = ap (λ (w : NeedsAndCounts). slice_get w.needs thread) c.count_events.ensures.kept.counts_are ∙ written in
    elim c.if-draw.branch [
      | then-draw w ↦ ap (λ (x : Lists). slice_get x.needs.items thread) w.self-is ∙ ap (λ (w : NeedsAndCounts). slice_get w.needs thread) w.count_draw.ensures.kept.counts_are ∙ event
      | else-draw w ↦ ap (λ (x : Lists). slice_get x.needs.items thread) w.self-is ∙ event
    ]

placed_but : (c : goal.After-settle) → ArePlacedBut c.if-draw.self c.args.thread
placed_but c =
    elim c.if-draw.branch [
      | then-draw w ↦ subst (λ (l : Lists). ArePlacedBut l c.args.thread) (sym w.self-is) (w.count_draw.ensures.placed c.args.thread (counted c))
      | else-draw w ↦ subst (λ (l : Lists). ArePlacedBut l c.args.thread) (sym w.self-is) (counted c)
    ]

pub returns-clause-placed : goal.returns-clause-placed
returns-clause-placed c any =
    elim (cases_eq any c.args.thread) [
      | inl same ↦ subst (λ (n : ℕ). IsPlaced c.settle.new.self n) (sym same) c.settle.ensures.placed
      | inr differ ↦ c.settle.ensures.others any (placed_but c any differ)
    ]
