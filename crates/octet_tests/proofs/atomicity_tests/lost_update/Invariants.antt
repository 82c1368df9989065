use Rattle.std.proofs.Common.{length, ◌-◌}
use Rattle.octet_model.specs.Traces.{trace_of}
use Rattle.octet_tests.proofs.atomicity_tests.lost_update.Given as goal

abbrev pub decreases-loop-place : goal.decreases-loop-place
decreases-loop-place l = length (trace_of l.tracer.script l.tracer.log.threads) - l.tracer.told
