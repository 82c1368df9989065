use Rattle.std.proofs.Common.{◌≡◌, ℕ, ◌<◌, length, sym, subst}
use Rattle.octet_machine.specs.declared.run.Run.{Run}
use Rattle.octet_machine.specs.Machine.{MachineState}
use Rattle.octet_machine.specs.Run.{machine_in}
use Rattle.octet_machine.proofs.running.Rests.{held_at_rest}
use Rattle.octet_machine.proofs.machine.Machine.rest.Goals as goal

there : (run : Run) (m : MachineState) (me : ℕ) → machine_in run ≡ m → me < length m.runners → me < length run.runners.items
there run m me view lt = subst (λ (n : MachineState). me < length n.runners) (sym view) lt

pub invariant_of-self : goal.invariant_of-self
invariant_of-self c = held_at_rest c.self.inside.run c.rest.new.self c.args.thread c.self.invariant (there c.self.inside.run c.args.self.now c.args.thread c.self.view_is c.requires) c.rest.ensures.machine c.rest.ensures.shape

pub returns-clause-running : goal.returns-clause-running
returns-clause-running c = (held_at_rest c.self.inside.run c.rest.new.self c.args.thread c.self.invariant (there c.self.inside.run c.args.self.now c.args.thread c.self.view_is c.requires) c.rest.ensures.machine c.rest.ensures.shape).running
