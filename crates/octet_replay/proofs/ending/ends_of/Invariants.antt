use Rattle.std.proofs.Common.{◌≡◌, map, take}
use Rattle.octet_replay.specs.Threads.{end_told}
use Rattle.octet_replay.proofs.ending.ends_of.Given as goal

abbrev pub invariant-loop-thread : goal.invariant-loop-thread
invariant-loop-thread l = l.ends ≡ map end_told (take l.thread-index l.threads)
