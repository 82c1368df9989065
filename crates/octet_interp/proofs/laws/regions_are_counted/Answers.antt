use Rattle.octet_interp.proofs.RegionsRun.{counted, marks_count_none}
use Rattle.octet_interp.proofs.laws.regions_are_counted.Goals as goal

pub returns-clause-counted : goal.returns-clause-counted
returns-clause-counted c = counted

pub returns-clause-marks : goal.returns-clause-marks
returns-clause-marks c = marks_count_none
