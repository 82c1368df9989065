use Rattle.std.proofs.Common.{◌≡◌, take}
use Rattle.octet_slice.specs.code.Cutting.{cut_log}
use Rattle.octet_slice.proofs.cutting.cut_threads.Given as goal

abbrev pub invariant-loop-thread : goal.invariant-loop-thread
invariant-loop-thread l = l.cut ≡ cut_log (take l.thread l.logs) (take l.thread l.threads)
