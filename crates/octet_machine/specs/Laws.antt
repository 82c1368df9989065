-- The laws of the machine, as the public functions of laws.rt prove them.
use Rattle.std.specs.Prelude.{◌≡◌, ℕ, ◌<◌, length, true, None}
use Rattle.octet_model.specs.declared.script.Script.{Script}
use Rattle.octet_model.specs.Journals.{log_of}
use Rattle.octet_model.specs.Orders.{outcome_of, IsFaithful}
use Rattle.octet_state.specs.Steps.{May}
use Rattle.octet_machine.specs.Machine.{MachineState, opening_machine, runner_of, next_kind, after_turn, have_ended, plain_state}
use Rattle.octet_machine.specs.Running.{IsRunning}

-- the machine before the first step is running
abbrev pub OpeningIsRunning : Type 0
OpeningIsRunning = (script : Script) → IsRunning (opening_machine script)

-- each turn keeps a running machine running
abbrev pub TurnsKeepRunning : Type 0
TurnsKeepRunning = (m : MachineState) (me : ℕ) → IsRunning m → me < length m.runners → IsRunning (after_turn m me)

-- the next step of a thread that has not ended is one that it may take
abbrev pub NextStepsMayBeTaken : Type 0
NextStepsMayBeTaken = (m : MachineState) (me : ℕ) → IsRunning m → me < length m.runners → (runner_of m me).end ≡ None → May (next_kind m me) me m.protocol

-- the log of the journals and the cells make a faithful recording, once all threads have ended
abbrev pub EndIsFaithful : Type 0
EndIsFaithful = (m : MachineState) → IsRunning m → have_ended m ≡ true
    → IsFaithful m.script (log_of m.protocol.journals) (outcome_of m.script (plain_state m.protocol))
