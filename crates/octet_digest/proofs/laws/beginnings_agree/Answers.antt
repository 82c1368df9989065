use Rattle.octet_digest.proofs.lemmas.Beginnings.{beginnings_agree}
use Rattle.octet_digest.proofs.laws.beginnings_agree.Goals as goal

pub returns : goal.returns
returns c = beginnings_agree
