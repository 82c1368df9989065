use Rattle.std.proofs.Common.{◌≡◌, Ok, Some, subst, refl}
use Rattle.octet_marks.specs.Files.{unread_of, Answers, IsNext}
use Rattle.octet_blocks.proofs.Fed.{feeds_one}
use Rattle.octet_blocks.proofs.reader.BlockReader.read_next.Goals as goal

pub returns-in_err-turn_to-in-Ok-Some-clause-feeds : goal.returns-in_err-turn_to-in-Ok-Some-clause-feeds
returns-in_err-turn_to-in-Ok-Some-clause-feeds c =
    let is : c.next.result ≡ Ok (Some c.in-Ok-Some.piece) = cc in
    let next : IsNext (unread_of c.args.self.now.reader) c.in-Ok-Some.piece (unread_of c.next.new.self) = subst (λ r. Answers (unread_of c.args.self.now.reader) (unread_of c.next.new.self) r) is c.next.ensures in
    feeds_one c.args.wanted.now c.args.self.now (record c.args.self.now { reader = c.next.new.self }) c.turn_to.new.self c.in-Ok-Some.piece c.reader_reads_what_it_is_fed.ensures.next c.requires.nothing c.requires.reads.0 c.requires.reads.1 refl next c.turn_to.ensures.turns

pub returns-in_ok-turn_to-in-Ok-Some-clause-feeds : goal.returns-in_ok-turn_to-in-Ok-Some-clause-feeds
returns-in_ok-turn_to-in-Ok-Some-clause-feeds c =
    let is : c.next.result ≡ Ok (Some c.in-Ok-Some.piece) = cc in
    let next : IsNext (unread_of c.args.self.now.reader) c.in-Ok-Some.piece (unread_of c.next.new.self) = subst (λ r. Answers (unread_of c.args.self.now.reader) (unread_of c.next.new.self) r) is c.next.ensures in
    feeds_one c.args.wanted.now c.args.self.now (record c.args.self.now { reader = c.next.new.self }) c.turn_to.new.self c.in-Ok-Some.piece c.reader_reads_what_it_is_fed.ensures.next c.requires.nothing c.requires.reads.0 c.requires.reads.1 refl next c.turn_to.ensures.turns
