use Rattle.std.proofs.Common.{◌≡◌, map, take}
use Rattle.octet_interp.specs.Demands.{next_demand}
use Rattle.octet_threads.specs.Runners.{end_told}
use Rattle.octet_threads.proofs.heap.recording.ends_of.Given as goal

abbrev pub invariant-loop-runner : goal.invariant-loop-runner
invariant-loop-runner l = l.ends ≡ map (λ runner. end_told (next_demand runner.config)) (take l.runner-index l.runners)
