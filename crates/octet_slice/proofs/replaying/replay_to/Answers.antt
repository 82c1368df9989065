use Rattle.std.proofs.Common.{◌≡◌, ◌∙◌, arith, ap, sym, subst, Option}
use Rattle.octet_model.specs.declared.event.Event.{Event}
use Rattle.octet_model.specs.declared.event.Place.{Place}
use Rattle.octet_replay.specs.TracerState.{TracerState}
use Rattle.octet_replay.proofs.lemmas.Traces.{fewer_to_tell}
use Rattle.octet_slice.proofs.Seeking.{KeepsEvent, few_told, keeps_it, keeps_on, never_none, replayed_to, same_place}
use Rattle.octet_slice.proofs.replaying.replay_to.Goals as goal
use Rattle.octet_slice.proofs.replaying.replay_to.Goals.{then-from-thread+then-from-event, else-from-thread, else-from-thread-via-then-from-thread+else-from-event, else-from-thread-via-else-from-thread}

pub overflow_add-made : goal.overflow_add-made
overflow_add-made c =
    omega (
      arith,
      c.loop-place.invariant.made,
      few_told c.args.script.now c.args.log.now c.requires.agree c.loop-place.tracer c.next.new.self c.loop-place.invariant.script c.loop-place.invariant.log (c.in-Some.place, c.in-Some.this) c.in-Some.ensures,
    )

pub loop-place-smaller : goal.loop-place-smaller
loop-place-smaller c = fewer_to_tell c.loop-place.tracer c.next.new.self (c.in-Some.place, c.in-Some.this) c.in-Some.ensures

pub loop-place-preserved : goal.loop-place-preserved
loop-place-preserved c =
    let wanted : Place = record { thread = c.args.thread; event = c.args.event } in
    let after = c.next.new.self in
    let other = keeps_on c.loop-place.tracer after wanted c.in-Some.place c.in-Some.this c.in-Some.ensures c.loop-place.found in
    let kept : (found : Option Event) → found ≡ c.loop-place.found → KeepsEvent after.script after.log.threads wanted after.told c.loop-place.found → KeepsEvent after.script after.log.threads wanted after.told found =
    λ found is keeps. subst (λ (f : Option Event). KeepsEvent after.script after.log.threads wanted after.told f) (sym is) keeps in
    record {
      script = ap (λ (t : TracerState). t.script) c.in-Some.ensures.1 ∙ c.loop-place.invariant.script;
      log = ap (λ (t : TracerState). t.log) c.in-Some.ensures.1 ∙ c.loop-place.invariant.log;
      made = omega (arith, c.loop-place.invariant.made, ap (λ (t : TracerState). t.told) c.in-Some.ensures.1);
      found = elim c.if-from-thread.branch [
        | then-from-thread+then-from-event w ↦
            subst (λ (f : Option Event). KeepsEvent after.script after.log.threads wanted after.told f) (sym w.found-is)
            (keeps_it c.loop-place.tracer after wanted c.in-Some.place c.in-Some.this c.in-Some.ensures
            (same_place c.in-Some.place c.args.thread c.args.event (sym c.from.ensures ∙ w.if-from-thread.true) (sym w.from-then-from-thread.ensures ∙ w.if-from-event.true)))
        | else-from-thread w ↦ elim w.else-from-thread.branch [
          | else-from-thread-via-then-from-thread+else-from-event w' ↦
              kept c.if-from-thread.found w.found-is (other (λ is. w'.if-from-event.false (w'.from-then-from-thread.ensures ∙ ap (λ (p : Place). p.event) is)) c.loop-place.invariant.found)
          | else-from-thread-via-else-from-thread w' ↦
              kept c.if-from-thread.found w.found-is (other (λ is. w'.if-from-thread.false (c.from.ensures ∙ ap (λ (p : Place). p.thread) is)) c.loop-place.invariant.found)
        ]
      ];
    }

pub unreachable-requires : goal.unreachable-requires
unreachable-requires c =
    never_none c.args.script.now c.args.log.now c.requires.agree c.loop-place.tracer c.next.new.self c.loop-place.invariant.script c.loop-place.invariant.log
    (record { thread = c.args.thread; event = c.args.event }) c.loop-place.found c.in_default-next.ensures c.loop-place.invariant.found c.requires.there c.in-None.is

pub returns : goal.returns
returns c =
    replayed_to c.args.script.now c.args.log.now c.requires.agree c.loop-place.tracer c.next.new.self c.loop-place.invariant.script c.loop-place.invariant.log
    (record { thread = c.args.thread; event = c.args.event }) c.loop-place.found c.in_default-next.ensures c.loop-place.invariant.found c.in-Some-found.event c.loop-place.made c.in-Some-found.is c.loop-place.invariant.made
