use Rattle.octet_blocks.proofs.Journals as journals
use Rattle.octet_blocks.proofs.laws.blocks_are_of_journal.Goals as goal

pub returns-clause-begin : goal.returns-clause-begin
returns-clause-begin c = journals.blocks_begin

pub returns-clause-whole : goal.returns-clause-whole
returns-clause-whole c = journals.blocks_are c.marks_join.ensures

pub returns-clause-ended : goal.returns-clause-ended
returns-clause-ended c = journals.end_is_written
