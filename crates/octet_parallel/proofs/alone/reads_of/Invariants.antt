use Rattle.std.proofs.Common.{◌≡◌, map}
use Rattle.octet_replay.specs.Threads.{values_of}
use Rattle.octet_parallel.proofs.alone.reads_of.Given as goal

abbrev pub invariant-loop-alone : goal.invariant-loop-alone
invariant-loop-alone l = l.reads ≡ map (λ alone. values_of alone.replay) l.yielded
