use Rattle.std.proofs.Common.{◌≡◌, ◌<◌, Ok, Some, length, refl, sym, subst}
use Rattle.octet_marks.specs.Files.{unread_of, Answers, IsNext}
use Rattle.octet_tail.proofs.Searching.{fewer_left, searches_one}
use Rattle.octet_tail.proofs.search.Search.note_next.Goals as goal

pub returns-in_err-note-in-Ok-Some-clause-searches : goal.returns-in_err-note-in-Ok-Some-clause-searches
returns-in_err-note-in-Ok-Some-clause-searches c =
    let is : c.next.result ≡ Ok (Some c.in-Ok-Some.piece) = cc in
    let next : IsNext (unread_of c.args.self.now.reader) c.in-Ok-Some.piece (unread_of c.next.new.self) = subst (λ r. Answers (unread_of c.args.self.now.reader) (unread_of c.next.new.self) r) is c.next.ensures in
    searches_one c.args.self.now (record c.args.self.now { reader = c.next.new.self }) c.note.new.self c.in-Ok-Some.piece c.reader_reads_what_it_is_fed.ensures.next refl next c.note.ensures.notes

pub returns-in_ok-note-in-Ok-Some-clause-searches : goal.returns-in_ok-note-in-Ok-Some-clause-searches
returns-in_ok-note-in-Ok-Some-clause-searches c =
    let is : c.next.result ≡ Ok (Some c.in-Ok-Some.piece) = cc in
    let next : IsNext (unread_of c.args.self.now.reader) c.in-Ok-Some.piece (unread_of c.next.new.self) = subst (λ r. Answers (unread_of c.args.self.now.reader) (unread_of c.next.new.self) r) is c.next.ensures in
    searches_one c.args.self.now (record c.args.self.now { reader = c.next.new.self }) c.note.new.self c.in-Ok-Some.piece c.reader_reads_what_it_is_fed.ensures.next refl next c.note.ensures.notes

pub returns-in_ok-note-in-Ok-Some-clause-fewer : goal.returns-in_ok-note-in-Ok-Some-clause-fewer
returns-in_ok-note-in-Ok-Some-clause-fewer c =
    let is : c.next.result ≡ Ok (Some c.in-Ok-Some.piece) = cc in
    let next : IsNext (unread_of c.args.self.now.reader) c.in-Ok-Some.piece (unread_of c.next.new.self) = subst (λ r. Answers (unread_of c.args.self.now.reader) (unread_of c.next.new.self) r) is c.next.ensures in
    λ same. subst (λ r. length (unread_of r).bytes < length (unread_of c.args.self.now.reader).bytes) (sym c.note.ensures.notes.reader)
    (fewer_left (unread_of c.args.self.now.reader) c.in-Ok-Some.piece (unread_of c.next.new.self) c.more_bytes_change_nothing.ensures.some next)
