use Rattle.std.proofs.Common.{length}
use Rattle.octet_blocks.specs.Reading.{waiting_items, Gives}
use Rattle.octet_blocks.proofs.reader.BlockReader.give_all.Given as goal

abbrev pub invariant-loop-item : goal.invariant-loop-item
invariant-loop-item l = Gives l.initial.self l.self

abbrev pub decreases-loop-item : goal.decreases-loop-item
decreases-loop-item l = length (waiting_items l.self.waiting)
