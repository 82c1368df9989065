use Rattle.std.proofs.Common.{◌<◌, length}
use Rattle.octet_threads.proofs.lock.worker.take_turns.Given as goal

abbrev pub invariant-loop : goal.invariant-loop
invariant-loop l = l.thread < length l.machine.runners
