use Rattle.std.proofs.Common.{◌≡◌, ◌∙◌, ◌++◌, ℕ, suc, ◌<◌, List, length, drop, get_or, Some, slice_get, slice_set, refl, sym, ap, subst, arith}
use Rattle.std.proofs.lemmas.Option.{slice_get_read}
use Rattle.octet_model.specs.declared.event.Event.{Event}
use Rattle.octet_model.specs.declared.event.Place.{Place}
use Rattle.octet_model.specs.declared.script.Script.{Script}
use Rattle.octet_model.specs.declared.log.Log.{Log}
use Rattle.octet_model.specs.Machine.{Journals, journal_of}
use Rattle.octet_model.specs.Thread.{starting_configuration}
use Rattle.octet_model.specs.Traces.{trace_of}
use Rattle.octet_script.specs.LineNumbers.{command_lines}
use Rattle.octet_interp.specs.Following.{FollowerState}
use Rattle.octet_replay.specs.ReplayState.{state_at}
use Rattle.octet_replay.specs.TracerState.{TracerState, TellsNext}
use Rattle.octet_replay.proofs.lemmas.Traces.{fewer_to_tell}
use Rattle.octet_commands.specs.TraceTexts.{event_lines, lines_after}
use Rattle.octet_commands.specs.Tracing.{AreFollowers, IsFollowerOf}
use Rattle.octet_commands.proofs.answering.TraceSteps.{step_of}
use Rattle.octet_commands.proofs.answering.Told.{fits_follower, one_followed, told_on}
use Rattle.octet_commands.proofs.trace.trace_text.Goals as goal

-- the next event, of a tracer of this script and log
same_item : (script : Script) (log : Log) (t : TracerState) (item : Place × Event) → t.script ≡ script → t.log ≡ log → slice_get (trace_of t.script t.log.threads) t.told ≡ Some item → slice_get (trace_of script log.threads) t.told ≡ Some item
same_item script log t item script_is log_is is =
    let same : slice_get (trace_of t.script t.log.threads) t.told ≡ slice_get (trace_of script log.threads) t.told = λ i. slice_get (trace_of (script_is i) (log_is i).threads) t.told in
    sym same ∙ is

-- the follower of its thread
its_follower : (script : Script) (journals : Journals) (followers : List FollowerState) (t : ℕ) (s : FollowerState) → AreFollowers script journals followers → t < length script.threads → s ≡ get_or followers t s
    → IsFollowerOf script t (journal_of journals t) s
its_follower script journals followers t s are lt is = are.each t s (slice_get_read followers (length script.threads) t s (sym are.as_many) lt is)

pub loop-place-init : goal.loop-place-init
loop-place-init c =
    let script = c.args.source.now.script in
    let log = c.args.tracer.now.log.threads in
    record {
      script = refl;
      log = refl;
      told =
          ap (λ (l : List ℕ). l ++ lines_after (command_lines c.args.source.now.text) script (state_at script log c.args.tracer.now.told).journals (drop c.args.tracer.now.told (trace_of script log))) c.new-text.ensures.items
          ∙ ap (λ (k : ℕ). lines_after (command_lines c.args.source.now.text) script (state_at script log k).journals (drop k (trace_of script log))) c.requires.begins;
      followers = subst (λ (k : ℕ). AreFollowers script (state_at script log k).journals c.in_ok-followers.followers.items) (sym c.requires.begins) c.in_ok-followers.ensures;
    }

pub index_mut-follower-requires : goal.index_mut-follower-requires
index_mut-follower-requires c =
    let script = c.args.source.now.script in
    let log = c.args.tracer.now.log in
    let t = c.loop-place.tracer in
    let item : Place × Event = (c.in-Some.place, c.in-Some.event) in
    let tells : TellsNext t (Some item) c.next.new.self = c.in-Some.ensures in
    let at = same_item script log t item (c.loop-place.invariant.script ∙ c.requires.of_script) c.loop-place.invariant.log tells.0 in
    let step = step_of script log.threads t.told item at in
    omega (arith, step.within, c.loop-place.invariant.followers.as_many)

pub loop-place-smaller : goal.loop-place-smaller
loop-place-smaller c = let tells : TellsNext c.loop-place.tracer (Some (c.in-Some.place, c.in-Some.event)) c.next.new.self = c.in-Some.ensures in fewer_to_tell c.loop-place.tracer c.next.new.self (c.in-Some.place, c.in-Some.event) tells

pub push_lines-requires : goal.push_lines-requires
push_lines-requires c =
    let script = c.args.source.now.script in
    let log = c.args.tracer.now.log in
    let t = c.loop-place.tracer in
    let item : Place × Event = (c.in-Some.place, c.in-Some.event) in
    let tells : TellsNext t (Some item) c.next.new.self = c.in-Some.ensures in
    let at = same_item script log t item (c.loop-place.invariant.script ∙ c.requires.of_script) c.loop-place.invariant.log tells.0 in
    let step = step_of script log.threads t.told item at in
    fits_follower script log.threads t.told item step c.index_mut-follower.result.now
    (its_follower script (state_at script log.threads t.told).journals c.loop-place.followers.items item.0.thread c.index_mut-follower.result.now c.loop-place.invariant.followers step.within c.index_mut-follower.ensures.value)

pub loop-place-preserved : goal.loop-place-preserved
loop-place-preserved c =
    let script = c.args.source.now.script in
    let log = c.args.tracer.now.log in
    let t = c.loop-place.tracer in
    let after = c.next.new.self in
    let item : Place × Event = (c.in-Some.place, c.in-Some.event) in
    let tells : TellsNext t (Some item) after = c.in-Some.ensures in
    let at = same_item script log t item (c.loop-place.invariant.script ∙ c.requires.of_script) c.loop-place.invariant.log tells.0 in
    let step = step_of script log.threads t.told item at in
    let journals = (state_at script log.threads t.told).journals in
    let follower = c.index_mut-follower.result.now in
    let new = c.push_lines.new.follower in
    let it = its_follower script journals c.loop-place.followers.items item.0.thread follower c.loop-place.invariant.followers step.within c.index_mut-follower.ensures.value in
    let lines = command_lines c.args.source.now.text in
    let lines_are : c.as_slice-in-Some.result.now ≡ lines = c.as_slice-in-Some.ensures ∙ c.in_ok-lines.ensures ∙ ap command_lines c.as_slice.ensures in
    let told = c.in_ok-push_lines.ensures.told in
    let event = told.2 (starting_configuration script.fuel) (journal_of journals item.0.thread) it.follows in
    let event_is = event.0 ∙ ap (λ (ls : List (List ℕ)). event_lines ls script follower.commands (starting_configuration script.fuel) (journal_of journals item.0.thread) item) lines_are in
    let told_is : after.told ≡ suc t.told = ap (λ (x : TracerState). x.told) tells.1 in
    let followed = one_followed script journals c.loop-place.followers.items item.0.thread item.1 new c.loop-place.invariant.followers step.there
    (record { commands = c.in_ok-push_lines.ensures.commands ∙ it.commands; follows = event.1 }) in
    record {
      script = ap (λ (x : TracerState). x.script) tells.1 ∙ c.loop-place.invariant.script;
      log = ap (λ (x : TracerState). x.log) tells.1 ∙ c.loop-place.invariant.log;
      told =
          ap (λ (k : ℕ). c.push_lines.new.out.items ++ lines_after lines script (state_at script log.threads k).journals (drop k (trace_of script log.threads))) told_is
          ∙ told_on script log.threads t.told item step lines c.loop-place.text.items c.push_lines.new.out.items told.0 _ follower at it told.1 event_is c.loop-place.invariant.told;
      followers =
          subst (λ (k : ℕ). AreFollowers script (state_at script log.threads k).journals (slice_set c.loop-place.followers.items item.0.thread new)) (sym told_is)
          (subst (λ (js : Journals). AreFollowers script js (slice_set c.loop-place.followers.items item.0.thread new)) (sym step.appends) followed);
    }
