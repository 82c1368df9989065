use Rattle.octet_digest.proofs.lemmas.Digests.{step_tells_digest, step_tells_word}
use Rattle.octet_digest.proofs.laws.steps_tell.Goals as goal

pub returns-clause-digest : goal.returns-clause-digest
returns-clause-digest c = step_tells_digest

pub returns-clause-word : goal.returns-clause-word
returns-clause-word c = step_tells_word
