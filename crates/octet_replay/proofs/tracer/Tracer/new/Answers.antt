use Rattle.std.proofs.Common.{ap}
use Rattle.octet_model.specs.declared.limits.TheConstants.{MAX_THREADS}
use Rattle.octet_replay.specs.ReplayState.{ReplayState}
use Rattle.octet_replay.proofs.Tracing.{agreeing, traced_at_start}
use Rattle.octet_replay.proofs.tracer.Tracer.new.Goals as goal

pub invariant_of-result : goal.invariant_of-result
invariant_of-result c =
    traced_at_start c.in_ok-replayer.replayer MAX_THREADS (ap (λ (r : ReplayState). r.steps) c.in_ok-replayer.ensures.opens) (agreeing c.args.script.now c.args.log.now c.in_ok-replayer.replayer c.in_ok-replayer.ensures.opens c.in_ok-replayer.ensures.agree)
