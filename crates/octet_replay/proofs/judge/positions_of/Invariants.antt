use Rattle.std.proofs.Common.{◌≡◌, ◌+◌, map, take}
use Rattle.octet_replay.proofs.judge.positions_of.Given as goal

abbrev pub invariant-loop-thread : goal.invariant-loop-thread
invariant-loop-thread l = l.positions ≡ map (λ t. t.accesses + t.marks) (take l.thread-index l.threads)
