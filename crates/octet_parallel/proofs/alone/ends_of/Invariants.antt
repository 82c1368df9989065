use Rattle.std.proofs.Common.{◌≡◌, map, take}
use Rattle.octet_replay.specs.Threads.{end_told}
use Rattle.octet_parallel.proofs.alone.ends_of.Given as goal

abbrev pub invariant-loop-alone : goal.invariant-loop-alone
invariant-loop-alone l = l.ends ≡ map (λ alone. end_told alone.replay) (take l.alone-index l.threads)
