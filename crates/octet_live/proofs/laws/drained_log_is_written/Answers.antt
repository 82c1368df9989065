use Rattle.octet_live.proofs.lemmas.Left.{all_written}
use Rattle.octet_live.proofs.lemmas.Written.{written}
use Rattle.octet_live.proofs.laws.drained_log_is_written.Goals as goal

pub returns-clause-drained : goal.returns-clause-drained
returns-clause-drained c = all_written

pub returns-clause-marks : goal.returns-clause-marks
returns-clause-marks c = written
