use Rattle.std.proofs.Common.{◌∙◌, refl, sym, ap, subst, replicate, length, arith}
use Rattle.std.proofs.lemmas.List.{take_at}
use Rattle.octet_model.specs.declared.log.Log.{Log}
use Rattle.octet_model.specs.declared.script.Script.{Script}
use Rattle.octet_replay.specs.ReplayState.{ReplayState, plain_state, HasHalted}
use Rattle.octet_replay.proofs.lemmas.Collecting.{fewer_left}
use Rattle.octet_commands.specs.Profile.{class_of, counts}
use Rattle.octet_commands.proofs.profiling.Counted.{counts_none, counts_step, length_counts}
use Rattle.octet_commands.proofs.profile.count_steps.Goals as goal

pub loop-event-init : goal.loop-event-init
loop-event-init g c = record {
  script = refl;
  log = refl;
  numbers = counts_none c.args.wanted c.args.replayer.now c.in_ok-numbers.numbers.items c.requires.begins (c.in_ok-numbers.ensures ∙ ap (λ n. replicate n 0) (c.new-classes.ensures.count ∙ c.class_count.ensures));
}

pub add-requires : goal.add-requires
add-requires g c =
    ap length (c.deref_mut.ensures.value ∙ c.loop-event.invariant.numbers) ∙ length_counts c.args.wanted (plain_state c.loop-event.replayer).journals
    ∙ sym (c.new-classes.ensures.count ∙ c.class_count.ensures)

pub loop-event-preserved : goal.loop-event-preserved
loop-event-preserved g c =
    let kept = c.loop-event.invariant in
    record {
      script = ap (λ (r : ReplayState). r.script) c.in-Made.ensures.1 ∙ kept.script;
      log = ap (λ (r : ReplayState). r.log) c.in-Made.ensures.1 ∙ kept.log;
      numbers =
          take_at c.add.new.numbers _ _ (omega arith)
          ∙ counts_step c.args.wanted c.loop-event.replayer c.step.new.self c.in-Made.thread c.in-Made.event c.deref_mut.result.now c.add.new.numbers
          (ap (λ (s : Script). length s.threads) kept.script ∙ c.requires.agree ∙ sym (ap (λ (l : Log). length l.threads) kept.log))
          c.in-Made.ensures.0 c.in-Made.ensures.1 (c.deref_mut.ensures.value ∙ kept.numbers)
          (c.add.ensures.by_function (class_of c.args.wanted)
          (λ event class answer. c.requires.computes answer.0 class (rw c.new-classes.ensures.class at answer.1) ∙ ap (class_of c.args.wanted) answer.2));
    }

pub loop-event-smaller : goal.loop-event-smaller
loop-event-smaller g c = fewer_left c.loop-event.replayer c.step.new.self c.in-Made.thread c.in-Made.event c.in-Made.ensures.0 c.in-Made.ensures.1

pub returns-clause-counts : goal.returns-clause-counts
returns-clause-counts g c =
    c.loop-event.invariant.numbers ∙ ap (λ (r : ReplayState). counts c.args.wanted (plain_state r).journals) (sym c.in_default.ensures.1)

pub returns-clause-halted : goal.returns-clause-halted
returns-clause-halted g c = subst HasHalted (sym c.in_default.ensures.1) c.in_default.ensures.0

pub returns-clause-same : goal.returns-clause-same
returns-clause-same g c = (
  ap (λ (r : ReplayState). r.script) c.in_default.ensures.1 ∙ c.loop-event.invariant.script,
  ap (λ (r : ReplayState). r.log) c.in_default.ensures.1 ∙ c.loop-event.invariant.log,
)
