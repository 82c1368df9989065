use Rattle.std.proofs.Common.{◌≡◌, drop}
use Rattle.octet_parallel.specs.Draws.{noted_of}
use Rattle.octet_parallel.proofs.draws.note_logs.Given as goal

abbrev pub invariant-loop-thread : goal.invariant-loop-thread
invariant-loop-thread l = noted_of l.draws l.thread (drop l.thread l.logs) ≡ noted_of l.initial.draws 0 l.logs
