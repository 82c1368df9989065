use Rattle.std.proofs.Common.{◌≡◌, ◌-◌, false, length, take}
use Rattle.std.specs.List.{All}
use Rattle.octet_model.specs.Traces.{trace_of}
use Rattle.octet_watch.specs.Tally.{AnswersAt}
use Rattle.octet_slice.proofs.finding.seek.Given as goal

abbrev pub invariant-loop-place : goal.invariant-loop-place
invariant-loop-place g l = record {
  script : l.tracer.script ≡ l.fn.tracer.script;
  log : l.tracer.log ≡ l.fn.tracer.log;
  refused : All (λ item. AnswersAt (λ shown answer. (goal.Fn-dyn g).post (l.test.test.vtable, l.test.test.value) (shown, tt) answer) item.1 false) (take l.tracer.told (trace_of l.tracer.script l.tracer.log.threads));
}

abbrev pub decreases-loop-place : goal.decreases-loop-place
decreases-loop-place g l = length (trace_of l.tracer.script l.tracer.log.threads) - l.tracer.told
