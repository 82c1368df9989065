use Rattle.std.proofs.Common.{rules, ◌∙◌, refl, ap}
use Rattle.octet_model.specs.declared.event.Event.TheVariants.{Marked}
use Rattle.octet_parallel.specs.Views.{PlayerView}
use Rattle.octet_parallel.proofs.players.Turns.{mark_happens, track_after, journal_room, became}
use Rattle.octet_parallel.proofs.field.Field.make_mark.Goals as goal

pub note-requires-clause-journal : goal.note-requires-clause-journal
note-requires-clause-journal c =
    let took = c.mark.ensures.step in let h = mark_happens _ _ _ c.args.mark took c.requires.own.paid c.requires.next in
    journal_room _ _ c.requires.own c.mark.new.seat.inner.me.0 (Marked c.args.mark) (search rules) (ap (λ (x : PlayerView). x.number) took.moves ∙ c.requires.own.number) h.journal (track_after _ _ _ _ took)

pub returns-clause-own : goal.returns-clause-own
returns-clause-own c =
    let took = c.mark.ensures.step in let h = mark_happens _ _ _ c.args.mark took c.requires.own.paid c.requires.next in
    became _ c.args.player.now _ _ c.requires.own h.heap h.is (search rules) (ap (λ (x : PlayerView). x.number) took.moves)
    (ap (λ (x : PlayerView). x.player.fate) took.moves) (ap (λ (x : PlayerView). x.player.owes) took.moves)
    h.journal (track_after _ _ _ _ took) c.note.ensures.replay c.note.ensures.journal c.note.ensures.room refl refl
