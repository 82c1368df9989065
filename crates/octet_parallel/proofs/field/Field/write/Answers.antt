use Rattle.std.proofs.Common.{rules, ◌∙◌, inl, refl, ap}
use Rattle.octet_model.specs.declared.event.Event.TheVariants.{Write}
use Rattle.octet_parallel.specs.Steps.{ToWrite, event_next}
use Rattle.octet_model.specs.Machine.{Next}
use Rattle.octet_parallel.specs.Views.{PlayerView}
use Rattle.octet_parallel.proofs.players.Turns.{write_happens, counted, track_after, journal_room, stands, room, became}
use Rattle.octet_parallel.proofs.field.Field.write.Goals as goal

pub note-requires-clause-stands : goal.note-requires-clause-stands
note-requires-clause-stands c = let h = write_happens _ _ _ c.args.object c.args.value c.write-before.ensures.step c.requires.next in stands _ _ c.requires.own h.heap _ h.is

pub note-requires-clause-room : goal.note-requires-clause-room
note-requires-clause-room c = let h = write_happens _ _ _ c.args.object c.args.value c.write-before.ensures.step c.requires.next in room _ _ c.requires.own h.heap _ h.is

pub note-requires-clause-journal : goal.note-requires-clause-journal
note-requires-clause-journal c =
    let h = write_happens _ _ _ c.args.object c.args.value c.write-before.ensures.step c.requires.next in let took = c.write-before.ensures.step in
    journal_room _ _ c.requires.own c.write-before.new.seat.inner.me.0 (Write c.args.object c.args.value) (search rules) (ap (λ (x : PlayerView). x.number) took.moves ∙ c.requires.own.number) h.journal (track_after _ _ _ _ took)

pub returns-clause-own : goal.returns-clause-own
returns-clause-own c =
    let h = write_happens _ _ _ c.args.object c.args.value c.write-before.ensures.step c.requires.next in let took = c.write-before.ensures.step in let count = c.count.ensures.step in
    let owes = ap (λ (x : PlayerView). x.player.owes) took.moves in
    became _ c.args.player.now _ _ c.requires.own h.heap h.is (search rules) (ap (λ (x : PlayerView). x.number) count.moves ∙ ap (λ (x : PlayerView). x.number) took.moves)
    (ap (λ (x : PlayerView). x.player.fate) count.moves ∙ ap (λ (x : PlayerView). x.player.fate) took.moves) (ap (λ (x : PlayerView). x.player.owes) count.moves)
    (counted _ _ _ count owes ∙ h.journal) (track_after _ _ _ _ count) c.note.ensures.replay c.note.ensures.journal c.note.ensures.room refl refl

pub returns-clause-step : goal.returns-clause-step
returns-clause-step c =
    let h = write_happens _ _ _ c.args.object c.args.value c.write-before.ensures.step c.requires.next in let took = c.write-before.ensures.step in let count = c.count.ensures.step in
    let owes = ap (λ (x : PlayerView). x.player.owes) took.moves in record {
      event = Write c.args.object c.args.value;
      value = c.args.value;
      is_next = ap (λ (n : Next). event_next n (c.args.value)) c.requires.next;
      journal = counted _ _ _ count owes ∙ h.journal;
      steps = inl (record { kind = ToWrite; on_cell = tt; told = c.write-before.result; between = c.write-before.new.seat.inner.me.0; access = took; events = _; count = count });
    }
