use Rattle.std.proofs.Common.{ℕ, List, length, get_or, sym, subst, arith}
use Rattle.std.proofs.lemmas.Result.{err_from_is_err_and}
use Rattle.octet_window.specs.Noting.{IsEventIn}
use Rattle.octet_window.specs.Ordering.{parts_of}
use Rattle.octet_window.proofs.Played.{misfit, no_step, nothing_played, played_on}
use Rattle.octet_window.proofs.Values.{step_at}
use Rattle.octet_window.proofs.playing.play_steps.Goals as goal

pub loop-step-init : goal.loop-step-init
loop-step-init c =
    let run = c.in_ok-run.ensures in
    nothing_played c.args.starts.now c.args.threads.now (parts_of c.in_ok-run.run') run.rest run.starts run.heap run.none

pub make-requires-clause-there : goal.make-requires-clause-there
make-requires-clause-there c =
    let at = step_at c.args.steps.now c.loop-step.step-index (length c.args.starts.now) (length c.args.threads.now) no_step c.loop-step-test.true c.requires.inside in
    omega (arith, at.0, c.loop-step.invariant.many)

pub make-requires-clause-inside : goal.make-requires-clause-inside
make-requires-clause-inside c =
    let at = step_at c.args.steps.now c.loop-step.step-index (length c.args.starts.now) (length c.args.threads.now) no_step c.loop-step-test.true c.requires.inside in
    subst (λ (l : List ℕ). IsEventIn (length l) (get_or c.args.steps.now c.loop-step.step-index no_step).event) (sym c.loop-step.invariant.begins) at.1

pub returns-in_err-make-clause-refused : goal.returns-in_err-make-clause-refused
returns-in_err-make-clause-refused c =
    let p = err_from_is_err_and c.from_residual-in_err-make.result c.from_residual-in_err-make.ensures.1 in
    rw (p.1, p.2) (misfit c.args.starts.now (length c.args.threads.now) c.args.steps.now c.loop-step.step-index no_step c.loop-step-test.true (parts_of c.loop-step.run) c.loop-step.invariant
    c.in_err-make.field-0.0 c.in_err-make.ensures.refused)

pub loop-step-preserved : goal.loop-step-preserved
loop-step-preserved c =
    let made = c.in_ok-make.ensures in
    played_on c.args.starts.now (length c.args.threads.now) c.args.steps.now c.loop-step.step-index no_step c.loop-step-test.true (parts_of c.loop-step.run) c.loop-step.invariant
    (parts_of c.make.new.run) made.rest made.adds made.value
