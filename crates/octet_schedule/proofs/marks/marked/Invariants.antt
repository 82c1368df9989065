use Rattle.std.proofs.Common.{◌≡◌, length, take}
use Rattle.octet_model.specs.declared.limits.TheConstants.{MAX_THREADS}
use Rattle.octet_schedule.specs.Ready.{marked}
use Rattle.octet_schedule.proofs.marks.marked.Given as goal

abbrev pub invariant-loop-place : goal.invariant-loop-place
invariant-loop-place l = (take l.place l.marked ≡ marked (take l.place l.marks)) × (length l.marked ≡ MAX_THREADS)
