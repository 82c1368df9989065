use Rattle.octet_stream.proofs.lemmas.Items as items
use Rattle.octet_stream.proofs.laws.marks_join.Goals as goal

pub returns : goal.returns
returns c = items.marks_join
