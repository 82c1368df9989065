use Rattle.octet_script.proofs.spelling.Canonical.{canonical_spells}
use Rattle.octet_script.proofs.laws.canonical_text_spells_its_script.Goals as goal

pub returns : goal.returns
returns c = canonical_spells
