use Rattle.std.proofs.Common.{◌≡◌, ℕ, ◌<◌, length, false, get_or, sym, subst}
use Rattle.std.specs.Option.{is_some}
use Rattle.octet_machine.specs.declared.run.Run.{Run}
use Rattle.octet_machine.specs.declared.run.Runner.{Runner}
use Rattle.octet_machine.specs.Machine.{MachineState}
use Rattle.octet_machine.specs.Run.{machine_in, IsHeld, Steps}
use Rattle.octet_machine.specs.Running.{IsRunning}
use Rattle.octet_machine.proofs.running.EachTurn.{next_steps_may}
use Rattle.octet_machine.proofs.next_steps.OfRun.{not_ended, steps_hold}
use Rattle.octet_machine.proofs.machine.Machine.turn.Goals as goal

held_after : (before after : Run) (m : MachineState) (me : ℕ) (x : Runner) → IsHeld before → machine_in before ≡ m → me < length m.runners → x ≡ get_or before.runners.items me x → false ≡ is_some x.end → Steps me before after → IsHeld after
held_after before after m me x held view there found alive steps =
    let here : me < length before.runners.items = subst (λ (n : MachineState). me < length n.runners) (sym view) there in
    steps_hold before after me (record { is_held = held; there = here; goes_on = not_ended before.runners.items me x here found alive }) steps

pub invariant_of-self : goal.invariant_of-self
invariant_of-self c = held_after c.self.inside.run c.step.new.self c.args.self.now c.args.thread c.index.result.now c.self.invariant c.self.view_is c.requires c.index.ensures c.if-is_some.ensures c.step.ensures.steps

pub returns-clause-running : goal.returns-clause-running
returns-clause-running c = (held_after c.self.inside.run c.step.new.self c.args.self.now c.args.thread c.index.result.now c.self.invariant c.self.view_is c.requires c.index.ensures c.if-is_some.ensures c.step.ensures.steps).running

pub returns-clause-step : goal.returns-clause-step
returns-clause-step c = next_steps_may c.args.self.now c.args.thread (subst IsRunning c.self.view_is c.self.invariant.running) c.requires
