use Rattle.octet_interp.proofs.Agreement.{takes}
use Rattle.octet_interp.proofs.laws.demands_take_fuel.Goals as goal

pub returns : goal.returns
returns c = takes
