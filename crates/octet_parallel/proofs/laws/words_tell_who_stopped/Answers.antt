use Rattle.octet_parallel.proofs.steps.Lawful.{word_tells_stop}
use Rattle.octet_parallel.proofs.laws.words_tell_who_stopped.Goals as goal

pub returns : goal.returns
returns c = word_tells_stop
