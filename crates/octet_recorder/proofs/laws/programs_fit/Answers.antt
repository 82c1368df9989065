use Rattle.octet_recorder.proofs.lemmas.Programs.{program_fits, program_long, program_valid, programs_join}
use Rattle.octet_recorder.proofs.laws.programs_fit.Goals as goal

pub returns-clause-fits : goal.returns-clause-fits
returns-clause-fits c = program_fits

pub returns-clause-long : goal.returns-clause-long
returns-clause-long c = program_long

pub returns-clause-valid : goal.returns-clause-valid
returns-clause-valid c = program_valid

pub returns-clause-join : goal.returns-clause-join
returns-clause-join c = programs_join
