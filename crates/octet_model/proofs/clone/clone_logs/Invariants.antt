use Rattle.std.proofs.Common.{◌≡◌, take}
use Rattle.octet_model.proofs.clone.clone_logs.Given as goal

abbrev pub invariant-loop-thread : goal.invariant-loop-thread
invariant-loop-thread l = l.copy ≡ take l.thread-index l.threads
