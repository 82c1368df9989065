use Rattle.octet_follow.proofs.Blocks.{blocks_tell, parts_tell, told_has_begun, told_has_followed}
use Rattle.octet_follow.proofs.laws.blocks_tell.Goals as goal

pub returns-clause-blocks : goal.returns-clause-blocks
returns-clause-blocks c = blocks_tell

pub returns-clause-parts : goal.returns-clause-parts
returns-clause-parts c = parts_tell

pub returns-clause-begun : goal.returns-clause-begun
returns-clause-begun c = told_has_begun

pub returns-clause-followed : goal.returns-clause-followed
returns-clause-followed c = told_has_followed
