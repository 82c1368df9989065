use Rattle.std.proofs.Common.{◌≡◌, ◌-◌, ◌++◌, length, drop}
use Rattle.octet_model.specs.Traces.{trace_of}
use Rattle.octet_script.specs.LineNumbers.{command_lines}
use Rattle.octet_replay.specs.ReplayState.{state_at}
use Rattle.octet_commands.specs.TraceTexts.{lines_after, trace_text}
use Rattle.octet_commands.specs.Tracing.{AreFollowers}
use Rattle.octet_commands.proofs.trace.trace_text.Given as goal

abbrev pub invariant-loop-place : goal.invariant-loop-place
invariant-loop-place l = record {
  script : l.tracer.script ≡ l.fn.tracer.script;
  log : l.tracer.log ≡ l.fn.tracer.log;
  told : l.text.items ++ lines_after (command_lines l.source.text) l.script (state_at l.script l.fn.tracer.log.threads l.tracer.told).journals (drop l.tracer.told (trace_of l.script l.fn.tracer.log.threads))
      ≡ trace_text l.source.text l.script (trace_of l.script l.fn.tracer.log.threads);
  followers : AreFollowers l.script (state_at l.script l.fn.tracer.log.threads l.tracer.told).journals l.followers.items;
}

abbrev pub decreases-loop-place : goal.decreases-loop-place
decreases-loop-place l = length (trace_of l.tracer.script l.tracer.log.threads) - l.tracer.told
