-- What `trace` answers of a log that does not fit.
use Rattle.std.proofs.Common.{◌≡◌, ◌≢◌, ◌∙◌, ◌++◌, length, inl, sym, refl}
use Rattle.octet_model.specs.Traces.{trace_of}
use Rattle.octet_replay.specs.declared.fault.ReplayFault.{ReplayFault}
use Rattle.octet_replay.specs.declared.fault.ReplayFault.TheVariants.{ThreadsDiffer, Stuck, Misfit, OutOfMemory}
use Rattle.octet_replay.specs.Judged.{HasCause}
use Rattle.octet_replay.specs.Line.{fit_line}
use Rattle.octet_replay.specs.ReplayState.{IsNotBegun}
use Rattle.octet_commands.specs.declared.inputs.Pair.{Pair}
use Rattle.octet_commands.specs.declared.request.PairTask.TheVariants.{Trace}
use Rattle.octet_commands.specs.declared.reply.Status.TheVariants as exit
use Rattle.octet_commands.specs.Answer.{Answer, does_not_fit, says}
use Rattle.octet_commands.specs.Commands.{PairReplays}
use Rattle.octet_commands.specs.TraceTexts.{trace_text}

-- of another number of threads no event is told
pub not_begun : (pair : Pair) (fault : ReplayFault) (answer : Answer) → fault ≢ OutOfMemory → IsNotBegun pair.source.script pair.loaded.log.threads fault → answer ≡ does_not_fit fault → PairReplays Trace pair answer
not_begun pair (ThreadsDiffer of_script of_log) answer memory cause is = inl (ThreadsDiffer of_script of_log, memory, cause, is)
not_begun pair (Stuck positions) answer memory cause is = absurd cause
not_begun pair (Misfit thread wanted found) answer memory cause is = absurd cause
not_begun pair OutOfMemory answer memory cause is = absurd (memory refl)

-- of as many, those that were made come first
pub made_first : (pair : Pair) (fault : ReplayFault) (answer : Answer) → length pair.source.script.threads ≡ length pair.loaded.log.threads → fault ≢ OutOfMemory → HasCause pair.source.script pair.loaded.log.threads fault
    → answer ≡ says exit.Misfit (trace_text pair.source.text pair.source.script (trace_of pair.source.script pair.loaded.log.threads) ++ fit_line fault) → PairReplays Trace pair answer
made_first pair (ThreadsDiffer of_script of_log) answer agree memory cause is = absurd (cause.differ (cause.script_has ∙ agree ∙ sym cause.log_has))
made_first pair (Stuck positions) answer agree memory cause is = inl (Stuck positions, memory, cause, is)
made_first pair (Misfit thread wanted found) answer agree memory cause is = inl (Misfit thread wanted found, memory, cause, is)
made_first pair OutOfMemory answer agree memory cause is = absurd (memory refl)
