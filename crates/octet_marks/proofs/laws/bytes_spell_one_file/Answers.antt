use Rattle.octet_marks.proofs.Runs.{one_file}
use Rattle.octet_marks.proofs.laws.bytes_spell_one_file.Goals as goal

pub returns : goal.returns
returns c = one_file
