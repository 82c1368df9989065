use Rattle.std.proofs.Common.{refl}
use Rattle.octet_heap.proofs.log.Logged.{more_accesses}
use Rattle.octet_heap.proofs.running_log.RunningLog.add_access.Goals as goal

pub returns-clause-log : goal.returns-clause-log
returns-clause-log c = more_accesses c.args.self.now _ refl refl refl
