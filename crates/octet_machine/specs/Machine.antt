-- The machine: whose step is next, and what a turn makes of it.
use Rattle.std.specs.Prelude.{ℕ, Bool, true, false, ◌&&◌, if◌then◌else◌, List, [], length, map, Option, Some, None, slice_index_or, slice_set}
use Rattle.std.specs.List.{list_all, range_with_len}
use Rattle.std.specs.Option.{is_some}
use Rattle.octet_model.specs.declared.outcome.End.{End}
use Rattle.octet_model.specs.declared.script.Script.{Script}
use Rattle.octet_model.specs.Machine.{PlainState, journal_of}
use Rattle.octet_model.specs.Journals.{access_count}
use Rattle.octet_model.specs.Orders.{starting_heap}
use Rattle.octet_interp.specs.declared.demand.Demand.{Demand}
use Rattle.octet_interp.specs.declared.demand.Demand.TheVariants as demand
use Rattle.octet_interp.specs.Demands.{ThreadState, starting_thread, next_demand, after_demand, given}
use Rattle.octet_state.specs.declared.act.Mode.TheVariants.{Read, Write, Update}
use Rattle.octet_state.specs.declared.phase.Phase.{Phase}
use Rattle.octet_state.specs.declared.phase.Phase.TheVariants.{Idle, Pass}
use Rattle.octet_state.specs.declared.phase.Due.{Due}
use Rattle.octet_state.specs.declared.phase.Due.TheVariants.{Nothing}
use Rattle.octet_state.specs.declared.why.Why.{Why}
use Rattle.octet_state.specs.State.{Thread, ProtocolState, thread_of, opening}
use Rattle.octet_state.specs.Steps.{Kind, ToGlance, ToBlock, ToLoad, told, step}
use Rattle.octet_state.specs.NextStep.{next_kind as next_kind_by, waits}
use Rattle.octet_state.specs.Form.{is_nothing}
use Rattle.octet_machine.specs.declared.run.Runner.{Runner}
use Rattle.octet_machine.specs.declared.turned.Turned.{Turned}
use Rattle.octet_machine.specs.declared.turned.Turned.TheVariants.{Moved, Waits, Ended}

-- the state of the protocol, each thread as its script runs, and the script
pub record MachineState : Type 0 where
  pub protocol : ProtocolState
  pub runners : List Runner
  pub script : Script

-- the runner of a thread at its start
abbrev pub starting_runner : ThreadState → Runner
starting_runner state = record { config = state; value = 0; end = None }

-- the runner of a thread that is not there
abbrev pub no_runner : Runner
no_runner = starting_runner (record { commands = []; at = record { place = 0; registers = []; fuel = 0 }; waits = false; objects = 0; regions = 0 })

-- the runner of a thread
abbrev pub runner_of : MachineState → ℕ → Runner
runner_of m thread = slice_index_or m.runners thread no_runner

-- the runners of the first `many` threads of a script, each at its start
abbrev pub starting_runners : Script → ℕ → List Runner
starting_runners script many = map (λ thread. starting_runner (starting_thread script thread)) (range_with_len 0 many)

-- the machine of a script before the first step
abbrev pub opening_machine : Script → MachineState
opening_machine script = record {
  protocol = opening (length script.threads) (starting_heap script);
  runners = starting_runners script (length script.threads);
  script = script;
}

-- the first step of what a script demands
abbrev pub kind_of_demand : Demand → Kind
kind_of_demand (demand.Read object) = ToLoad object Read
kind_of_demand (demand.Write object value) = ToLoad object Write
kind_of_demand (demand.Bump object amount) = ToLoad object Update
kind_of_demand demand.Safe = ToGlance
kind_of_demand demand.Pause = ToBlock false
kind_of_demand (demand.Ended end) = ToBlock true

-- the next step of a thread that has not ended, by its phase and by what its script demands
abbrev pub next_kind : MachineState → ℕ → Kind
next_kind m me = let runner = runner_of m me in
    next_kind_by (length m.protocol.threads) me (kind_of_demand (next_demand runner.config)) runner.value (thread_of m.protocol me)

-- the runner after it was told what its script demands next
abbrev pub taken_up : Demand → Runner → Runner
taken_up (demand.Write object value) runner = record { config = after_demand runner.config; value = value; end = runner.end }
taken_up (demand.Bump object amount) runner = record { config = after_demand runner.config; value = amount; end = runner.end }
taken_up (demand.Ended end) runner = record { config = after_demand runner.config; value = runner.value; end = Some end }
taken_up _ runner = record { config = after_demand runner.config; value = runner.value; end = runner.end }

-- the runner after the step of a phase. A read gives it the word that it is told
abbrev pub run_in_phase : ℕ → Phase → Runner → Runner
run_in_phase word Idle runner = taken_up (next_demand runner.config) runner
run_in_phase word (Pass object Read) runner = record { config = given runner.config word; value = runner.value; end = runner.end }
run_in_phase word _ runner = runner

-- the runner after the step, where the thread owed nothing, else the runner before it
abbrev pub run_by_due : Due → Runner → Runner → Runner
run_by_due Nothing before after = after
run_by_due _ before after = before

-- the runner after the thread's next step
abbrev pub next_run : MachineState → ℕ → Runner
next_run m me = let x = thread_of m.protocol me in
    run_by_due x.due (runner_of m me) (run_in_phase (told (next_kind m me) me m.protocol) x.phase (runner_of m me))

-- the machine after the thread's next step
abbrev pub after_step : MachineState → ℕ → MachineState
after_step m me = record {
  protocol = step (next_kind m me) me m.protocol;
  runners = slice_set m.runners me (next_run m me);
  script = m.script;
}

-- the reason why the thread waits after its next step, if it waits
abbrev pub next_waits : MachineState → ℕ → Option Why
next_waits m me = waits (next_kind m me) me (told (next_kind m me) me m.protocol) (thread_of m.protocol me)

-- the answer of a turn whose thread waits for this reason, or for none
abbrev pub turned_by : Option Why → Turned
turned_by None = Moved
turned_by (Some why) = Waits why

-- the machine after a turn. A turn of a thread that has ended changes nothing
abbrev pub state_of_turn : Option End → MachineState → MachineState → MachineState
state_of_turn None before after = after
state_of_turn (Some end) before after = before

-- the answer of a turn, which is Ended for a thread that has ended
abbrev pub answer_of_turn : Option End → Turned → Turned
answer_of_turn None turned = turned
answer_of_turn (Some end) turned = Ended

-- the machine after a turn of the thread
abbrev pub after_turn : MachineState → ℕ → MachineState
after_turn m me = state_of_turn (runner_of m me).end m (after_step m me)

-- the answer of a turn of the thread
abbrev pub turned : MachineState → ℕ → Turned
turned m me = answer_of_turn (runner_of m me).end (turned_by (next_waits m me))

-- the test whether all threads have ended
abbrev pub have_ended : MachineState → Bool
have_ended m = list_all (λ runner. is_some runner.end) m.runners

-- the plain state of a run that has come to this state: its heap is the cells
abbrev pub plain_state : ProtocolState → PlainState
plain_state s = record { heap = s.cells; journals = s.journals; draws = s.counter }

-- the test whether a demand is an access
abbrev pub is_access : Demand → Bool
is_access (demand.Read object) = true
is_access (demand.Write object value) = true
is_access (demand.Bump object amount) = true
is_access _ = false

-- the test whether a phase is idle
abbrev pub is_idle : Phase → Bool
is_idle Idle = true
is_idle _ = false

-- the test whether a thread is at rest: it is idle, and owes nothing
abbrev pub is_at_rest : Thread → Bool
is_at_rest x = is_idle x.phase && is_nothing x.due

-- the number of accesses that a thread has made, if it is at rest and is to demand an access next
abbrev pub wanted : MachineState → ℕ → Option ℕ
wanted m thread =
    if is_at_rest (thread_of m.protocol thread) && is_access (next_demand (runner_of m thread).config) then Some (access_count (journal_of m.protocol.journals thread)) else None

-- the machine after a thread at rest has marked itself blocked for a while, between two demands.
-- A thread that is not at rest changes nothing
abbrev pub after_rest : MachineState → ℕ → MachineState
after_rest m me = if is_at_rest (thread_of m.protocol me) then record { protocol = step (ToBlock false) me m.protocol; runners = m.runners; script = m.script } else m
