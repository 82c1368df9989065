use Rattle.std.proofs.Common.{rules, ◌≡◌, List, Bool, inr, subst}
use Rattle.octet_marks.specs.declared.piece.Piece.{Piece}
use Rattle.octet_marks.specs.Files.{Unread, unread_of, fed_with}
use Rattle.octet_commands.specs.Marks.{ReadsTo, AreLines, EndsAfter}
use Rattle.octet_commands.proofs.reading.Told.{refused_told}
use Rattle.octet_commands.proofs.marks.tell.Goals as goal

pub returns-then-lines : goal.returns-then-lines
returns-then-lines g c =
    let before = g.D.Desk.state c.args.desk.now in
    let after = g.D.Desk.state c.say_last.new.desk in
    let start = unread_of c.feed.new.self in
    let stands = unread_of c.read_lines.new.reader in
    let text = c.in-Ok.lines.text.items in
    let fed : start ≡ fed_with c.args.bytes.now (unread_of c.args.reader.now) = search rules in
    let lines = subst (λ (b : Bool). AreLines start stands text b) c.if-lines.true c.in-Ok.ensures in
    inr (subst (λ (u : Unread). (pieces : List Piece) × (last : Unread) × ReadsTo u pieces last × EndsAfter pieces last before after c.say_last.result) fed
    (refused_told start stands text c.saying-reply.result before after c.say_last.result lines c.saying-reply.ensures c.say_last.ensures))
