-- Each step that a thread took is one of the run.
use Rattle.std.proofs.Common.{◌≡◌, ◌∷◌, ◌++◌, sym, ap, ◌∙◌, subst}
use Rattle.octet_state.specs.State.{ProtocolState}
use Rattle.octet_state.specs.Steps.{May, told, ThreadStep}
use Rattle.octet_seats.proofs.lemmas.Runs as seats
use Rattle.octet_rule.specs.Views.{Taken}
use Rattle.octet_rule.specs.Laws.{StepsAreOfRun}
use Rattle.octet_rule.proofs.Runs.{moves, MayStep, after_is, steps_are, may_all}

pub steps_are_of_run : StepsAreOfRun
steps_are_of_run s run thread first more taken is e =
    let it = seats.steps_are_of_run moves MayStep s run thread first more taken (may_all s run is) (sym (steps_are thread s run) ∙ e) in
    let kind : taken.kind ≡ it.step.kind = ap (λ (z : Taken). z.kind) it.is in
    let same : it.step ≡ record { thread = thread; kind = taken.kind } = λ i. record { thread = it.by i; kind = sym kind i } in record {
      before = it.before;
      after = it.after;
      parts = it.parts ∙ λ i. it.before ++ same i ∷ it.after;
      earlier = steps_are thread s it.before ∙ it.earlier;
      may = subst (λ (z : ThreadStep × ProtocolState). May z.0.kind z.0.thread z.1) (λ i. (same i, sym (after_is s it.before) i)) it.may.1;
      word = ap (λ (z : Taken). z.word) it.is ∙ λ i. told ((same i).kind) ((same i).thread) (sym (after_is s it.before) i);
    }
