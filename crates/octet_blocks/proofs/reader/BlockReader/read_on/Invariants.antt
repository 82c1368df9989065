use Rattle.std.proofs.Common.{◌≡◌, [], length, false}
use Rattle.octet_marks.specs.Files.{unread_of}
use Rattle.octet_blocks.specs.Reading.{Feeds}
use Rattle.octet_blocks.proofs.reader.BlockReader.read_on.Given as goal

abbrev pub invariant-pieces : goal.invariant-pieces
invariant-pieces l = record {
  feeds : Feeds l.wanted [] l.initial.self l.self;
  of_run : l.self.is_other ≡ false;
  goes_on : l.self.is_over ≡ false;
}

abbrev pub decreases-pieces : goal.decreases-pieces
decreases-pieces l = length (unread_of l.self.reader).bytes
