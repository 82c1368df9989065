use Rattle.std.proofs.Common.{◌≡◌, ◌+◌, ◌<◌, inl, inr, refl, ap, ◌∙◌, sym, length, slice_get, Some, arith}
use Rattle.std.proofs.lemmas.List.{get_or_default}
use Rattle.std.proofs.lemmas.Option.{slice_get-get_or}
use Rattle.std.specs.Vec.{with_item}
use Rattle.octet_replay.specs.declared.waiting.WaitingList.{WaitingList}
use Rattle.octet_replay.proofs.Placing.{after_event, placed_or_due}
use Rattle.octet_replay.proofs.waits.Lists.count_events.Goals as goal

pub returns-clause-placed : goal.returns-clause-placed
returns-clause-placed c thread was_placed =
    let l = c.args.self.now in
    let by = c.args.thread in
    let count = c.index.result.now + c.args.more in
    let in_events : by < length l.events.items = omega arith in
    let in_lists : by < length l.at_events.items = omega arith in
    let was : slice_get l.at_events.items by ≡ Some c.index_mut-2.result.now =
    slice_get-get_or l.at_events.items by c.index_mut-2.result.now in_lists ∙ ap (λ (x : WaitingList). Some x) (sym c.index_mut-2.ensures.value) in
    let after = record l { events = with_item l.events by count; at_events = with_item l.at_events by c.take_due-due.new.self } in
    elim (placed_or_due l after c.take_due-due.result refl refl
    (after_event l after by count c.index_mut-2.result.now c.take_due-due.new.self c.take_due-due.result refl
    (omega (arith, c.index.ensures, get_or_default l.events.items by c.index.result.now 0 in_events)) in_events refl was refl refl c.take_due-due.ensures)
    thread was_placed) [
      | inl due ↦ c.place_all.ensures.placed thread due.0 due.1
      | inr stays ↦ c.place_all.ensures.others thread stays
    ]
