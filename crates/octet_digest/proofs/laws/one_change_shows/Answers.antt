use Rattle.octet_digest.proofs.lemmas.Changes.{one_change_shows}
use Rattle.octet_digest.proofs.laws.one_change_shows.Goals as goal

pub returns : goal.returns
returns c = one_change_shows
