-- The state of the protocol that the memory holds.
use Rattle.std.specs.Prelude.{◌≡◌, ℕ, ◌<◌, ◌≤◌, List, [], length, map, get_or, slice_set, vec_capacity, Option}
use Rattle.octet_model.specs.declared.event.Event.{Event}
use Rattle.octet_model.specs.Machine.{appended}
use Rattle.octet_state.specs.declared.act.Mode.{Mode}
use Rattle.octet_state.specs.declared.phase.Phase.{Phase}
use Rattle.octet_state.specs.declared.phase.Phase.TheVariants.{Claimed}
use Rattle.octet_state.specs.declared.why.Why.{Why}
use Rattle.octet_state.specs.State.{Thread, ProtocolState, thread_of, now}
use Rattle.octet_state.specs.Steps.{Kind, step, told}
use Rattle.octet_state.specs.NextStep.{waits}
use Rattle.octet_machine.specs.declared.memory.ProtocolThread.{ProtocolThread}
use Rattle.octet_machine.specs.declared.memory.Memory.{Memory}

-- the thread of the protocol that the memory holds
abbrev pub thread_in : ProtocolThread → Thread
thread_in x = record { phase = x.phase; due = x.due; count = x.count }

-- the protocol's state that the memory holds, of a run that started with these values
abbrev pub held : List ℕ → Memory → ProtocolState
held starts m = record {
  counter = m.counter;
  statuses = m.statuses.items;
  states = m.states.items;
  cells = m.cells.items;
  threads = map thread_in m.threads.items;
  journals = map (λ journal. journal.events.items) m.journals.items;
  starts = starts;
}

-- the shape of a memory: how much there is of each, and how many events each journal has room for
pub record Shape : Type 0 where
  pub threads : ℕ
  pub statuses : ℕ
  pub states : ℕ
  pub cells : ℕ
  pub rooms : List ℕ

-- the shape of this memory
abbrev pub shape : Memory → Shape
shape m = record {
  threads = length m.threads.items;
  statuses = length m.statuses.items;
  states = length m.states.items;
  cells = length m.cells.items;
  rooms = map (λ journal. vec_capacity journal.events) m.journals.items;
}

-- the thread is there, with a status and a journal
pub record IsThread (s : Shape) (me : ℕ) : Type 0 where
  pub there : me < s.threads
  pub few : s.threads ≤ 16
  pub statuses : s.statuses ≡ s.threads
  pub journals : length s.rooms ≡ s.threads

-- the object is there, with a state and a cell
pub record IsObject (s : Shape) (object : ℕ) : Type 0 where
  pub there : object < s.cells
  pub states : s.states ≡ s.cells

-- the state with this thread in its place
abbrev pub with_thread : ProtocolState → ℕ → Thread → ProtocolState
with_thread s me x = record s { threads = slice_set s.threads me x }

-- the state with one more event of a thread
abbrev pub with_event : ProtocolState → ℕ → Event → ProtocolState
with_event s me event = record s { journals = appended s.journals me event }

-- the thread's journal has room for one more event
abbrev pub HasRoom : Memory → ℕ → Type 0
HasRoom m me = now (held [] m) me < get_or (shape m).rooms me 0

-- the phase is a claim of this object for such an access
abbrev pub IsClaimOf : ℕ → Mode → Phase → Type 0
IsClaimOf object mode (Claimed claimed how prior done asked) = (claimed ≡ object) × (how ≡ mode)
IsClaimOf object mode _ = ⊥

-- the thread as the memory holds it
abbrev pub thread_here : Memory → ℕ → Thread
thread_here m me = thread_of (held [] m) me

-- the memory holds what `made` makes of the state that it held, whatever the start, and keeps its shape
pub record Becomes (made : ProtocolState → ProtocolState) (before after : Memory) : Type 0 where
  pub state : (starts : List ℕ) → held starts after ≡ made (held starts before)
  pub same_shape : shape after ≡ shape before

-- the memory took the thread's step of this kind
abbrev pub TakesStep : Kind → ℕ → Memory → Memory → Type 0
TakesStep k me = Becomes (step k me)

-- the reason why the thread waits after the step, if it waits
abbrev pub waits_here : Kind → ℕ → Memory → Option Why
waits_here k me m = waits k me (told k me (held [] m)) (thread_here m me)
