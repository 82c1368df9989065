use Rattle.std.proofs.Common.{rules, arith, ◌≡◌, ◌+◌, ◌-◌, ◌<◌, ◌≤◌, ℕ, List, length, Some, None, subst, sym}
use Rattle.std.proofs.lemmas.List.{nil_from_length}
use Rattle.octet_marks.specs.Files.{unread_of, ending_of}
use Rattle.octet_marks.specs.Texts.{ending_text}
use Rattle.octet_commands.specs.declared.marks.TheConstants.{TOO_MANY_BYTES}
use Rattle.octet_commands.specs.declared.reply.Status.TheVariants.{Done}
use Rattle.octet_commands.specs.Answer.{says, too_long}
use Rattle.octet_commands.specs.Marks.{IsTold}
use Rattle.octet_commands.proofs.reading.Ended.{IsUnderWay, started, unread_ends, ended, told_ends, told_on, long_ends}
use Rattle.octet_commands.proofs.reading.Told.{last_of}
use Rattle.octet_commands.proofs.marks.serve_marks.Goals as goal

pub loop-from-init : goal.loop-from-init
loop-from-init g c = started c.args.name.now (g.D.Desk.state c.args.desk.now) (unread_of c.new-reader.result) c.new-reader.ensures

pub returns-in-Err : goal.returns-in-Err
returns-in-Err g c =
    let state = g.D.Desk.state in
    unread_ends c.args.name.now (state c.args.desk.now) (state c.loop-from.desk) (state c.take_piece.new.self) c.loop-from.from c.min-limit.result (unread_of c.loop-from.reader) c.loop-from.invariant
    c.in-Err.fault c.in-Err.ensures (state c.end_unread.new.desk) c.end_unread.result c.end_unread.ensures

pub returns-then-is_empty : goal.returns-then-is_empty
returns-then-is_empty g c =
    let state = g.D.Desk.state in
    let unread = unread_of c.loop-from.reader in
    let none : length c.in-Ok.bytes.items ≡ 0 = search rules in
    let short : c.loop-from.from < TOO_MANY_BYTES = search rules in
    let some : 0 < c.min-limit.result = omega (arith, c.min-limit.ensures, short) in
    let last = last_of c.ending.result (says Done (ending_text (ending_of unread))) (state c.take_piece.new.self) (state c.say_last.new.desk) c.say_last.result c.ending.ensures c.say_last.ensures in
    ended c.args.name.now (state c.args.desk.now) (state c.loop-from.desk) (state c.take_piece.new.self) c.loop-from.from c.min-limit.result unread c.loop-from.invariant
    c.in-Ok.bytes c.in-Ok.ensures (nil_from_length c.in-Ok.bytes.items none) some short (state c.say_last.new.desk) c.say_last.result last

pub returns-in-Some : goal.returns-in-Some
returns-in-Some g c =
    let state = g.D.Desk.state in
    let block = c.in-Ok.bytes in
    let within : c.loop-from.from + length block.items ≤ TOO_MANY_BYTES = omega (arith, c.in-Ok.ensures.within, c.min-limit.ensures, c.loop-from.invariant.few) in
    told_ends c.args.name.now (state c.args.desk.now) (state c.loop-from.desk) (state c.take_piece.new.self) c.loop-from.from c.min-limit.result (unread_of c.loop-from.reader) c.loop-from.invariant
    block c.in-Ok.ensures within (unread_of c.tell.new.reader) (state c.tell.new.desk) c.in-Some.code
    (subst (λ (b : List ℕ). IsTold b (unread_of c.loop-from.reader) (unread_of c.tell.new.reader) (state c.take_piece.new.self) (state c.tell.new.desk) (Some c.in-Some.code)) c.as_slice.ensures.value c.in-Some.ensures)

pub loop-from-preserved : goal.loop-from-preserved
loop-from-preserved g c =
    let state = g.D.Desk.state in
    let block = c.in-Ok.bytes in
    let within : c.loop-from.from + length block.items ≤ TOO_MANY_BYTES = omega (arith, c.in-Ok.ensures.within, c.min-limit.ensures, c.loop-from.invariant.few) in
    let counted : c.len.result ≡ length block.items = search rules in
    subst (λ (n : ℕ). IsUnderWay c.args.name.now (state c.args.desk.now) (state c.tell.new.desk) (c.loop-from.from + n) (unread_of c.tell.new.reader)) (sym counted)
    (told_on c.args.name.now (state c.args.desk.now) (state c.loop-from.desk) (state c.take_piece.new.self) c.loop-from.from c.min-limit.result (unread_of c.loop-from.reader) c.loop-from.invariant
    block c.in-Ok.ensures within (unread_of c.tell.new.reader) (state c.tell.new.desk)
    (subst (λ (b : List ℕ). IsTold b (unread_of c.loop-from.reader) (unread_of c.tell.new.reader) (state c.take_piece.new.self) (state c.tell.new.desk) None) c.as_slice.ensures.value c.in_default.ensures))

pub returns : goal.returns
returns g c =
    let state = g.D.Desk.state in
    let long : TOO_MANY_BYTES ≤ c.loop-from.from = search rules in
    let last = last_of c.too_long.result (too_long c.args.name.now (TOO_MANY_BYTES - 1)) (state c.loop-from.desk) (state c.say_last-2.new.desk) c.say_last-2.result c.too_long.ensures c.say_last-2.ensures in
    long_ends c.args.name.now (state c.args.desk.now) (state c.loop-from.desk) (state c.say_last-2.new.desk) c.loop-from.from (unread_of c.loop-from.reader) c.loop-from.invariant long c.say_last-2.result last
