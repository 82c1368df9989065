use Rattle.std.proofs.Common.{refl}
use Rattle.octet_host.specs.declared.fault.CloseFault.TheVariants.{OutOfMemory}
use Rattle.octet_c.proofs.octet_close.Goals as goal

pub returns-in-Ok-clause-cause : goal.returns-in-Ok-clause-cause
returns-in-Ok-clause-cause c = λ unready. (OutOfMemory, tt, refl)
