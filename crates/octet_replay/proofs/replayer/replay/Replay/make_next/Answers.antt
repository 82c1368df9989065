use Rattle.std.proofs.Common.{Some, None, sym, ap, ◌∙◌}
use Rattle.octet_model.specs.declared.event.Event.TheVariants.{Marked}
use Rattle.octet_replay.specs.NextSteps.{as_next}
use Rattle.octet_replay.specs.ReplayState.{plain_state}
use Rattle.octet_replay.specs.Threads.{next_event}
use Rattle.octet_replay.specs.Replayed.{state_of}
use Rattle.octet_replay.proofs.Stepping.{next_step, at_after, state_after_event, some_event, can_make, thread_here, access_within, event_found, mark_found, next_after}
use Rattle.octet_replay.proofs.replayer.replay.Replay.make_next.Goals as goal

pub make-after-requires-clause-can : goal.make-after-requires-clause-can
make-after-requires-clause-can c =
    let r = c.args.self.now in
    let here = thread_here r c.requires.at c.args.thread c.requires.lowest.is_met c.args.next c.requires.its in
    let is = mark_found r c.requires.at c.args.thread c.requires.lowest.is_met c.args.next c.requires.its c.in-Mark.mark c.in-Mark.is in
    can_make r c.requires.at c.args.thread c.requires.lowest.is_met here.0 here.1 (Marked c.in-Mark.mark) is

pub returns-in-Mark-clause-steps : goal.returns-in-Mark-clause-steps
returns-in-Mark-clause-steps c =
    let r = c.args.self.now in
    let here = thread_here r c.requires.at c.args.thread c.requires.lowest.is_met c.args.next c.requires.its in
    let is = mark_found r c.requires.at c.args.thread c.requires.lowest.is_met c.args.next c.requires.its c.in-Mark.mark c.in-Mark.is in (
      next_step r c.requires.at c.args.thread c.requires.lowest here.0 here.1 (Marked c.in-Mark.mark) is,
      state_after_event r c.requires.at c.args.thread c.requires.lowest here.0 here.1 (Marked c.in-Mark.mark) is c.make-after.result c.make-after.new.self c.make-after.ensures,
    )

pub returns-in-Mark-clause-at : goal.returns-in-Mark-clause-at
returns-in-Mark-clause-at c =
    let r = c.args.self.now in
    let here = thread_here r c.requires.at c.args.thread c.requires.lowest.is_met c.args.next c.requires.its in
    let is = mark_found r c.requires.at c.args.thread c.requires.lowest.is_met c.args.next c.requires.its c.in-Mark.mark c.in-Mark.is in
    at_after r c.requires.at c.args.thread c.requires.lowest here.0 here.1 (Marked c.in-Mark.mark) is c.make-after.result c.make-after.new.self c.make-after.ensures

pub returns-in-Mark-clause-its : goal.returns-in-Mark-clause-its
returns-in-Mark-clause-its c = next_after c.args.self.now c.args.thread (Marked c.in-Mark.mark) c.make-after.result c.make-after.new.self c.make-after.ensures

pub event-requires : goal.event-requires
event-requires c = access_within c.args.self.now c.requires.at c.args.thread c.requires.lowest.is_met c.args.next c.requires.its c.deref.result.now c.deref.ensures.value

pub unreachable-requires : goal.unreachable-requires
unreachable-requires c =
    let r = c.args.self.now in
    let here = thread_here r c.requires.at c.args.thread c.requires.lowest.is_met c.args.next c.requires.its in
    some_event r.script.value r.log.value.threads (plain_state (state_of r)) r.threads.items r.heap.items r.waits c.requires.at.stands c.args.thread here.0 here.1 c.requires.lowest.is_met
    (event_found r c.requires.at c.args.thread c.requires.lowest.is_met c.args.next c.requires.its c.deref.result.now c.event.result None c.deref.ensures.value c.event.ensures c.in_default-event.is)

pub make-after-requires-2 : goal.make-after-requires-2
make-after-requires-2 c =
    let r = c.args.self.now in
    let here = thread_here r c.requires.at c.args.thread c.requires.lowest.is_met c.args.next c.requires.its in
    let is = event_found r c.requires.at c.args.thread c.requires.lowest.is_met c.args.next c.requires.its c.deref.result.now c.event.result (Some c.in-Some.event) c.deref.ensures.value c.event.ensures c.in-Some.is in
    record {
      can = can_make r c.requires.at c.args.thread c.requires.lowest.is_met here.0 here.1 c.in-Some.event is;
      of_log = c.requires.of_log;
    }

pub returns : goal.returns
returns c =
    let r = c.args.self.now in
    let here = thread_here r c.requires.at c.args.thread c.requires.lowest.is_met c.args.next c.requires.its in
    let is = event_found r c.requires.at c.args.thread c.requires.lowest.is_met c.args.next c.requires.its c.deref.result.now c.event.result (Some c.in-Some.event) c.deref.ensures.value c.event.ensures c.in-Some.is in
    record {
      steps = (
        next_step r c.requires.at c.args.thread c.requires.lowest here.0 here.1 c.in-Some.event is,
        state_after_event r c.requires.at c.args.thread c.requires.lowest here.0 here.1 c.in-Some.event is c.make-after-2.result c.make-after-2.new.self c.make-after-2.ensures,
      );
      at = at_after r c.requires.at c.args.thread c.requires.lowest here.0 here.1 c.in-Some.event is c.make-after-2.result c.make-after-2.new.self c.make-after-2.ensures;
      its = next_after r c.args.thread c.in-Some.event c.make-after-2.result c.make-after-2.new.self c.make-after-2.ensures;
      event = ap (next_event (as_next c.args.next)) (sym c.deref.ensures.value) ∙ sym c.event.ensures ∙ c.in-Some.is;
      same_log = c.make-after-2.ensures.log;
    }
