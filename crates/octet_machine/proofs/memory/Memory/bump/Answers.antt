use Rattle.std.proofs.Common.{rules, refl}
use Rattle.octet_machine.specs.Memory.{held}
use Rattle.octet_machine.proofs.memory_steps.Steps.{same_at, bumps}
use Rattle.octet_machine.proofs.memory.Memory.bump.Goals as goal

pub returns : goal.returns
returns c = record {
  state = λ starts.
      bumps (held starts c.args.self.now) c.args.me (held starts c.append.new.self) _ c.args.object c.args.amount c.index-before.result.now _ c.requires.phase
      (same_at c.args.self.now.cells.items c.args.object _ 0 c.requires.object.there c.index-before.ensures) refl
      (c.append.ensures.state starts) (c.move_to.ensures.state starts);
  same_shape = search rules;
}
