use Rattle.std.proofs.Common.{rules, ◌∙◌, inl, refl, ap}
use Rattle.octet_model.specs.declared.event.Event.TheVariants.{Update}
use Rattle.octet_model.specs.Thread.{added}
use Rattle.octet_parallel.specs.Steps.{ToBump, event_next}
use Rattle.octet_model.specs.Machine.{Next}
use Rattle.octet_parallel.specs.Views.{PlayerView}
use Rattle.octet_parallel.proofs.players.Turns.{bump_happens, counted, track_after, journal_room, stands, room, became}
use Rattle.octet_parallel.proofs.field.Field.bump.Goals as goal

pub note-requires-clause-stands : goal.note-requires-clause-stands
note-requires-clause-stands c = let h = bump_happens _ _ _ c.args.object c.args.amount (added c.args.amount c.bump-before.result) c.bump-before.ensures.step c.requires.next refl in stands _ _ c.requires.own h.heap _ h.is

pub note-requires-clause-room : goal.note-requires-clause-room
note-requires-clause-room c = let h = bump_happens _ _ _ c.args.object c.args.amount (added c.args.amount c.bump-before.result) c.bump-before.ensures.step c.requires.next refl in room _ _ c.requires.own h.heap _ h.is

pub note-requires-clause-journal : goal.note-requires-clause-journal
note-requires-clause-journal c =
    let h = bump_happens _ _ _ c.args.object c.args.amount (added c.args.amount c.bump-before.result) c.bump-before.ensures.step c.requires.next refl in let took = c.bump-before.ensures.step in
    journal_room _ _ c.requires.own c.bump-before.new.seat.inner.me.0 (Update c.args.object c.bump-before.result (added c.args.amount c.bump-before.result)) (search rules) (ap (λ (x : PlayerView). x.number) took.moves ∙ c.requires.own.number) h.journal (track_after _ _ _ _ took)

pub returns-clause-own : goal.returns-clause-own
returns-clause-own c =
    let h = bump_happens _ _ _ c.args.object c.args.amount (added c.args.amount c.bump-before.result) c.bump-before.ensures.step c.requires.next refl in let took = c.bump-before.ensures.step in let count = c.count.ensures.step in
    let owes = ap (λ (x : PlayerView). x.player.owes) took.moves in
    became _ c.args.player.now _ _ c.requires.own h.heap h.is (search rules) (ap (λ (x : PlayerView). x.number) count.moves ∙ ap (λ (x : PlayerView). x.number) took.moves)
    (ap (λ (x : PlayerView). x.player.fate) count.moves ∙ ap (λ (x : PlayerView). x.player.fate) took.moves) (ap (λ (x : PlayerView). x.player.owes) count.moves)
    (counted _ _ _ count owes ∙ h.journal) (track_after _ _ _ _ count) c.note.ensures.replay c.note.ensures.journal c.note.ensures.room refl refl

pub returns-clause-step : goal.returns-clause-step
returns-clause-step c =
    let h = bump_happens _ _ _ c.args.object c.args.amount (added c.args.amount c.bump-before.result) c.bump-before.ensures.step c.requires.next refl in let took = c.bump-before.ensures.step in let count = c.count.ensures.step in
    let owes = ap (λ (x : PlayerView). x.player.owes) took.moves in record {
      event = Update c.args.object c.bump-before.result (added c.args.amount c.bump-before.result);
      value = c.bump-before.result;
      is_next = ap (λ (n : Next). event_next n (c.bump-before.result)) c.requires.next;
      journal = counted _ _ _ count owes ∙ h.journal;
      steps = inl (record { kind = ToBump; on_cell = tt; told = c.bump-before.result; between = c.bump-before.new.seat.inner.me.0; access = took; events = _; count = count });
    }
