use Rattle.std.proofs.Common.{◌≡◌, ◌-◌, ◌≤◌, [], length, false}
use Rattle.octet_marks.specs.declared.limits.TheConstants.{MAX_BLOCK_MARKS}
use Rattle.octet_blocks.specs.Writing.{Gathers, known_of}
use Rattle.octet_blocks.proofs.writer.BlockWriter.gather.Given as goal

abbrev pub invariant-loop-item : goal.invariant-loop-item
invariant-loop-item l = record {
  gathers : Gathers l.initial.self l.self;
  known : known_of l.initial.self ≤ known_of l.self;
  none : l.self.bytes.items ≡ [];
  goes_on : l.self.has_ended ≡ false;
}

abbrev pub decreases-loop-item : goal.decreases-loop-item
decreases-loop-item l = MAX_BLOCK_MARKS - length l.self.marks.items
