use Rattle.std.proofs.Common.{refl, ap, ◌∙◌}
use Rattle.octet_replay.specs.ReplayState.{ReplayState}
use Rattle.octet_replay.proofs.lemmas.Collecting.{begins_empty, one_more_event, fewer_left}
use Rattle.octet_replay.proofs.order.collect.Goals as goal

pub loop-thread-init : goal.loop-thread-init
loop-thread-init c = record {
  script = refl;
  log = refl;
  journals = begins_empty c.args.replayer.now c.args.threads c.in_ok-journals.journals.items c.requires.begins c.requires.threads c.in_ok-journals.ensures;
}

pub loop-thread-preserved : goal.loop-thread-preserved
loop-thread-preserved c = record {
  script = ap (λ (r : ReplayState). r.script) c.in-Made.ensures.1 ∙ c.loop-thread.invariant.script;
  log = ap (λ (r : ReplayState). r.log) c.in-Made.ensures.1 ∙ c.loop-thread.invariant.log;
  journals =
      one_more_event c.loop-thread.replayer c.step.new.self c.in-Made.thread c.in-Made.event c.loop-thread.journals.items c.index_mut.result.now c.push.new.self c.in-Made.ensures.0 c.in-Made.ensures.1
      c.loop-thread.invariant.journals c.index_mut.ensures.value c.in_ok-push.ensures.ok;
}

pub loop-thread-smaller : goal.loop-thread-smaller
loop-thread-smaller c = fewer_left c.loop-thread.replayer c.step.new.self c.in-Made.thread c.in-Made.event c.in-Made.ensures.0 c.in-Made.ensures.1
