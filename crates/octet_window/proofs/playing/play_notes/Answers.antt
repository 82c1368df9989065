use Rattle.std.proofs.Common.{◌≡◌, ◌≤◌, ◌∙◌, ℕ, List, length, replicate, sym, ap, subst}
use Rattle.std.proofs.lemmas.Result.{err_from_is_err_and}
use Rattle.octet_model.specs.declared.limits.TheConstants.{MAX_OBJECTS}
use Rattle.octet_window.specs.declared.course.Step.{Step}
use Rattle.octet_window.specs.Courses.{AreSteps}
use Rattle.octet_window.specs.Playing.{IsMisfit}
use Rattle.octet_window.specs.Values.{shown_before}
use Rattle.octet_window.proofs.Played.{misfit_refusal, stuck_refusal}
use Rattle.octet_window.proofs.Values.{wide_all}
use Rattle.octet_window.proofs.playing.play_notes.Goals as goal

pub returns-in_err-steps-clause-refused : goal.returns-in_err-steps-clause-refused
returns-in_err-steps-clause-refused c =
    let p = err_from_is_err_and c.from_residual.result c.from_residual.ensures.1 in
    rw (p.1, p.2) (stuck_refusal c.args.objects c.args.threads.now c.in_err-steps.field-0.0 c.in_err-steps.ensures.refused)

pub shown_before-requires : goal.shown_before-requires
shown_before-requires c =
    let threads = c.args.threads.now in
    (length threads, subst (AreSteps c.args.objects (length threads)) (sym c.as_slice.ensures.value) (c.in_ok-steps.ensures.all.inside c.args.objects c.requires.inside))

pub play_steps-requires-clause-objects : goal.play_steps-requires-clause-objects
play_steps-requires-clause-objects c =
    let wide : length c.as_slice-2.result.now ≡ c.args.objects =
    ap (λ (l : List ℕ). length l) (c.as_slice-2.ensures.value ∙ c.in_ok-starts.ensures) ∙ wide_all c.as_slice.result.now c.args.objects in
    subst (λ (n : ℕ). n ≤ MAX_OBJECTS) (sym wide) c.requires.objects

pub play_steps-requires-clause-inside : goal.play_steps-requires-clause-inside
play_steps-requires-clause-inside c =
    let many = length c.args.threads.now in
    let wide : length c.as_slice-2.result.now ≡ c.args.objects =
    ap (λ (l : List ℕ). length l) (c.as_slice-2.ensures.value ∙ c.in_ok-starts.ensures) ∙ wide_all c.as_slice.result.now c.args.objects in
    subst (λ (n : ℕ). AreSteps n many c.as_slice-3.result.now) (sym wide)
    (subst (AreSteps c.args.objects many) (sym c.as_slice-3.ensures.value) (c.in_ok-steps.ensures.all.inside c.args.objects c.requires.inside))

pub returns-clause-starts : goal.returns-clause-starts
returns-clause-starts c =
    ap (λ (l : List ℕ). length l) (c.in_ok-run.ensures.starts ∙ (c.as_slice-2.ensures.value ∙ c.in_ok-starts.ensures)) ∙ wide_all c.as_slice.result.now c.args.objects

pub returns-in_err-run-clause-refused : goal.returns-in_err-run-clause-refused
returns-in_err-run-clause-refused c =
    let p = err_from_is_err_and c.from_residual-in_err-run.result c.from_residual-in_err-run.ensures.1 in
    let steps = c.in_ok-steps.steps.items in
    let why = c.in_err-run.field-0.0 in
    let starts : c.as_slice-2.result.now ≡ shown_before steps (replicate c.args.objects 0) =
    c.as_slice-2.ensures.value ∙ (c.in_ok-starts.ensures ∙ ap (λ (l : List Step). shown_before l (replicate c.args.objects 0)) c.as_slice.ensures.value) in
    rw (p.1, p.2) (misfit_refusal c.args.objects c.args.threads.now steps why c.in_ok-steps.ensures.all c.requires.inside
    (subst (λ (l : List ℕ). IsMisfit steps l why) starts (subst (λ (l : List Step). IsMisfit l c.as_slice-2.result.now why) c.as_slice-3.ensures.value c.in_err-run.ensures.refused)))
