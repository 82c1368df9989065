use Rattle.std.proofs.Common.{◌≡◌, ◌-◌, length}
use Rattle.octet_model.specs.Traces.{trace_of}
use Rattle.octet_slice.proofs.Seeking.{KeepsEvent}
use Rattle.octet_slice.proofs.replaying.replay_to.Given as goal

abbrev pub invariant-loop-place : goal.invariant-loop-place
invariant-loop-place l = record {
  script : l.tracer.script ≡ l.fn.script;
  log : l.tracer.log ≡ l.fn.log;
  made : l.made ≡ l.tracer.told;
  found : KeepsEvent l.tracer.script l.tracer.log.threads (record { thread = l.thread; event = l.event }) l.tracer.told l.found;
}

abbrev pub decreases-loop-place : goal.decreases-loop-place
decreases-loop-place l = length (trace_of l.tracer.script l.tracer.log.threads) - l.tracer.told
