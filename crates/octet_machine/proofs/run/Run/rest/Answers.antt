use Rattle.std.proofs.Common.{◌≡◌, ℕ, ◌∙◌, Bool, true, false, sym, ap}
use Rattle.octet_model.specs.Orders.{starting_heap}
use Rattle.octet_state.specs.State.{ProtocolState, thread_of}
use Rattle.octet_machine.specs.declared.run.Run.{Run}
use Rattle.octet_machine.specs.declared.memory.ProtocolThread.{ProtocolThread}
use Rattle.octet_machine.specs.Memory.{thread_in, held}
use Rattle.octet_machine.specs.Run.{machine_in}
use Rattle.octet_machine.specs.Machine.{MachineState, is_at_rest}
use Rattle.octet_machine.proofs.running.Rests.{to_rested, not_rested}
use Rattle.octet_machine.proofs.run.Run.rest.Goals as goal

rests_as : (run : Run) (me : ℕ) (thread : ProtocolThread) (result is : Bool) → ((starts : _) → thread_in thread ≡ thread_of (held starts run.memory) me) → result ≡ is_at_rest (thread_in thread) → result ≡ is → is_at_rest (thread_of (machine_in run).protocol me) ≡ is
rests_as run me thread result is stands tells same = ap is_at_rest (sym (stands (starting_heap run.script))) ∙ sym tells ∙ same

pub returns-then-is_at_rest-clause-machine : goal.returns-then-is_at_rest-clause-machine
returns-then-is_at_rest-clause-machine c =
    let run = c.args.self.now in
    let takes : MachineState → ProtocolState → MachineState = λ m protocol. record { protocol = protocol; runners = m.runners; script = m.script } in
    ap (takes (machine_in run)) (c.block.ensures.state (starting_heap run.script))
    ∙ to_rested (machine_in run) c.args.me (rests_as run c.args.me c.thread.result c.is_at_rest.result true c.thread.ensures c.is_at_rest.ensures c.if-is_at_rest.true)

pub returns-else-is_at_rest-clause-machine : goal.returns-else-is_at_rest-clause-machine
returns-else-is_at_rest-clause-machine c =
    let run = c.args.self.now in
    not_rested (machine_in run) c.args.me (rests_as run c.args.me c.thread.result c.is_at_rest.result false c.thread.ensures c.is_at_rest.ensures c.if-is_at_rest.false)
