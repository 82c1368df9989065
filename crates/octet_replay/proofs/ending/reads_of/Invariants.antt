use Rattle.std.proofs.Common.{◌≡◌, map}
use Rattle.octet_replay.specs.Threads.{values_of}
use Rattle.octet_replay.proofs.ending.reads_of.Given as goal

abbrev pub invariant-loop-thread : goal.invariant-loop-thread
invariant-loop-thread l = l.reads ≡ map values_of l.yielded
