use Rattle.octet_blocks.proofs.Adding.{writer_adds}
use Rattle.octet_blocks.proofs.laws.writers_add_to_the_file.Goals as goal

pub returns : goal.returns
returns c = writer_adds
