use Rattle.std.proofs.Common.{◌∙◌, ap}
use Rattle.octet_watch.specs.Tally.{AnswersAt}
use Rattle.octet_replay.specs.TracerState.{TracerState}
use Rattle.octet_replay.proofs.lemmas.Traces.{fewer_to_tell}
use Rattle.octet_slice.proofs.Seeking.{first_here, refused_all, refused_on}
use Rattle.octet_slice.proofs.finding.seek.Goals as goal

pub returns-then-asks-clause-found : goal.returns-then-asks-clause-found
returns-then-asks-clause-found g c =
    first_here (AnswersAt (λ shown answer. (goal.Fn-dyn g).post (c.args.test.now.test.vtable, c.args.test.now.test.value) (shown, tt) answer)) c.args.tracer.now c.loop-place.tracer c.next.new.self
    c.loop-place.invariant.script c.loop-place.invariant.log c.loop-place.invariant.refused c.in-Some.place c.in-Some.event c.in-Some.ensures c.if-asks.ensures

pub loop-place-smaller : goal.loop-place-smaller
loop-place-smaller g c = fewer_to_tell c.loop-place.tracer c.next.new.self (c.in-Some.place, c.in-Some.event) c.in-Some.ensures

pub loop-place-preserved : goal.loop-place-preserved
loop-place-preserved g c = record {
  script = ap (λ (t : TracerState). t.script) c.in-Some.ensures.1 ∙ c.loop-place.invariant.script;
  log = ap (λ (t : TracerState). t.log) c.in-Some.ensures.1 ∙ c.loop-place.invariant.log;
  refused =
      refused_on (AnswersAt (λ shown answer. (goal.Fn-dyn g).post (c.args.test.now.test.vtable, c.args.test.now.test.value) (shown, tt) answer)) c.args.tracer.now c.loop-place.tracer c.next.new.self
      c.loop-place.invariant.script c.loop-place.invariant.log c.loop-place.invariant.refused c.in-Some.place c.in-Some.event c.in-Some.ensures c.if-asks.ensures;
}

pub returns-clause-found : goal.returns-clause-found
returns-clause-found g c =
    refused_all (AnswersAt (λ shown answer. (goal.Fn-dyn g).post (c.args.test.now.test.vtable, c.args.test.now.test.value) (shown, tt) answer)) c.args.tracer.now c.loop-place.tracer c.next.new.self
    c.loop-place.invariant.script c.loop-place.invariant.log c.loop-place.invariant.refused c.in_default.ensures
