use Rattle.std.proofs.Common.{◌<◌, ℕ}
use Rattle.octet_replay.specs.Replayed.{IsFinishedHere}
use Rattle.octet_replay.proofs.judge.are_finished.Given as goal

abbrev pub invariant-loop-thread : goal.invariant-loop-thread
invariant-loop-thread l = (lower : ℕ) → lower < l.thread → IsFinishedHere l.logs l.threads lower
