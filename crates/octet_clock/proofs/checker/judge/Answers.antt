use Rattle.std.proofs.Common.{◌≡◌, ℕ, List, Option, Some, IsNone, refl, sym, ap, ◌∙◌, subst, arith}
use Rattle.std.proofs.lemmas.Option.{same_Some}
use Rattle.octet_model.proofs.lemmas.Validity.{valid_log}
use Rattle.octet_model.specs.declared.event.Event.{Event}
use Rattle.octet_model.specs.declared.event.Event.TheVariants.{Marked}
use Rattle.octet_model.specs.declared.event.Mark.{Mark}
use Rattle.octet_model.specs.Orders.{journals_after, lowest_order}
use Rattle.octet_replay.specs.declared.next_step.LowestStep.{LowestStep}
use Rattle.octet_replay.specs.declared.next_step.NextStep.{NextStep}
use Rattle.octet_replay.specs.declared.next_step.NextStep.TheVariants.{Mark as ToMark}
use Rattle.octet_replay.specs.NextSteps.{as_next}
use Rattle.octet_replay.specs.ReplayState.{ReplayState, plain_state, IsNextStep}
use Rattle.octet_replay.specs.Threads.{next_event}
use Rattle.octet_clock.specs.Checker.{Holds}
use Rattle.octet_clock.proofs.checks.Verifying.{as_many_journals, holds_after, next_in_play, room_in_play, thread_in_play}
use Rattle.octet_clock.proofs.checker.judge.Goals as goal

-- a step that is a mark makes it
mark_made : (next : NextStep) (mark : Mark) (event : Event) (heap : List ℕ) → next ≡ ToMark mark → next_event (as_next next) heap ≡ Some event → event ≡ Marked mark
mark_made next mark event heap is made = same_Some event (Marked mark) (sym made ∙ ap (λ (n : NextStep). next_event (as_next n) heap) is)

pub new-requires : goal.new-requires
new-requires c = omega (arith, (valid_log c.args.replayer.now.log.threads c.args.replayer.now.log.valid).most_threads, c.requires.threads)

pub loop-upcoming-init : goal.loop-upcoming-init
loop-upcoming-init c =
    let r = c.args.replayer.now in
    let js = journals_after r.script r.log.threads (lowest_order r.script r.log.threads) in
    let order = lowest_order r.script r.log.threads in
    record {
      many = c.in_ok-checker.ensures.many;
      holds = record {
        of_script = refl;
        of_log = refl;
        holds =
            subst (λ (n : ℕ). Holds js order n c.in_ok-checker.checker) (sym c.requires.begins)
            (c.in_ok-checker.ensures.holds js order (as_many_journals r.script r.log.threads c.requires.agree ∙ sym c.requires.threads));
      };
      some = c.lowest_step-upcoming.ensures.some;
      none = c.lowest_step-upcoming.ensures.none;
    }

pub take_in-requires-clause-thread : goal.take_in-requires-clause-thread
take_in-requires-clause-thread c =
    let r = c.args.replayer.now in
    let inv = c.loop-upcoming.invariant in
    omega (arith, thread_in_play r.script r.log c.requires.agree c.loop-upcoming.replayer c.loop-upcoming.checker inv.holds c.in-Some.step.thread c.make-event.result.0 c.make-event.ensures.steps.0, inv.many, c.requires.threads)

pub take_in-requires-clause-room : goal.take_in-requires-clause-room
take_in-requires-clause-room c =
    let r = c.args.replayer.now in
    let inv = c.loop-upcoming.invariant in
    omega (arith, room_in_play r.script r.log c.requires.agree c.loop-upcoming.replayer c.loop-upcoming.checker inv.holds c.in-Some.step.thread c.make-event.result.0 c.make-event.ensures.steps.0, inv.holds.holds.made c.in-Some.step.thread)

pub loop-upcoming-preserved : goal.loop-upcoming-preserved
loop-upcoming-preserved c =
    let r = c.args.replayer.now in
    let inv = c.loop-upcoming.invariant in
    record {
      many = c.in_ok-take_in.ensures.many ∙ inv.many;
      holds =
          holds_after r.script r.log c.requires.agree c.loop-upcoming.replayer c.loop-upcoming.checker inv.holds c.in-Some.step.thread c.make-event.result.0 c.make-event.ensures.steps.0
          c.make-event.new.self c.take_in.new.self c.make-event.ensures.steps.1 c.in_ok-take_in.ensures.taken;
      some = c.make-event.ensures.some;
      none = c.make-event.ensures.none;
    }

pub loop-upcoming-smaller : goal.loop-upcoming-smaller
loop-upcoming-smaller c =
    let r = c.args.replayer.now in
    let next = next_in_play r.script r.log c.requires.agree c.loop-upcoming.replayer c.loop-upcoming.checker c.loop-upcoming.invariant.holds c.in-Some.step.thread c.make-event.result.0 c.make-event.ensures.steps.0 in
    omega (arith, next.step.within, ap (λ (x : ReplayState). x.steps) c.make-event.ensures.steps.1)

pub returns-in-Unordered : goal.returns-in-Unordered
returns-in-Unordered c =
    let r = c.args.replayer.now in
    let more =
    holds_after r.script r.log c.requires.agree c.loop-upcoming.replayer c.loop-upcoming.checker c.loop-upcoming.invariant.holds c.in-Some.step.thread c.make-event.result.0 c.make-event.ensures.steps.0
    c.make-event.new.self c.take_in.new.self c.make-event.ensures.steps.1 c.in_ok-take_in.ensures.taken in
    record {
      script = more.of_script;
      log = more.of_log;
      halted = λ is. absurd (let unordered = c.in-Unordered.is in cc);
      judged = more.holds.judged;
    }

pub returns : goal.returns
returns c =
    let inv = c.loop-upcoming.invariant in
    record {
      script = inv.holds.of_script;
      log = inv.holds.of_log;
      halted = λ is. inv.none (subst (λ (o : Option LowestStep). IsNone o) (sym c.in_default.is) refl);
      judged = inv.holds.holds.judged;
    }

pub take_mark-requires-clause-room : goal.take_mark-requires-clause-room
take_mark-requires-clause-room c =
    let r = c.args.replayer.now in
    let inv = c.loop-upcoming.invariant in
    omega (arith, room_in_play r.script r.log c.requires.agree c.loop-upcoming.replayer c.loop-upcoming.checker inv.holds c.in-Some.step.thread c.make-after.result.0 c.make-after.ensures.steps.0, inv.holds.holds.made c.in-Some.step.thread)

pub loop-upcoming-preserved-in_ok-take_mark : goal.loop-upcoming-preserved-in_ok-take_mark
loop-upcoming-preserved-in_ok-take_mark c =
    let r = c.args.replayer.now in
    let inv = c.loop-upcoming.invariant in
    let is = mark_made c.in-Some.step.next c.in-Mark.mark c.make-after.result.0 (plain_state c.loop-upcoming.replayer).heap c.in-Mark.is c.make-after.ensures.event in
    record {
      many = c.in_ok-take_mark.ensures.many ∙ inv.many;
      holds =
          holds_after r.script r.log c.requires.agree c.loop-upcoming.replayer c.loop-upcoming.checker inv.holds c.in-Some.step.thread (Marked c.in-Mark.mark)
          (subst (λ (e : Event). IsNextStep c.loop-upcoming.replayer c.in-Some.step.thread e) is c.make-after.ensures.steps.0)
          c.make-after.new.self c.take_mark.new.self c.make-after.ensures.steps.1 c.in_ok-take_mark.ensures.taken;
      some = c.make-after.ensures.some;
      none = c.make-after.ensures.none;
    }
