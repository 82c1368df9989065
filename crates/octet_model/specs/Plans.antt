-- The plan of a run: what the plain machine needs of a script, without names and limits. Its orders, and what is recorded of it.
use Rattle.std.specs.Prelude.{◌≡◌, ℕ, ◌<◌, List, [], ◌∷◌, length, get_or, map}
use Rattle.octet_model.specs.declared.command.Command.{Command}
use Rattle.octet_model.specs.declared.event.Event.{Event}
use Rattle.octet_model.specs.declared.event.Event.TheVariants.{Read, Write, Update, Marked}
use Rattle.octet_model.specs.declared.outcome.End.{End}
use Rattle.octet_model.specs.declared.outcome.End.TheVariants.{Spent}
use Rattle.octet_model.specs.declared.outcome.Outcome.{Outcome}
use Rattle.octet_model.specs.declared.log.ThreadLog.{ThreadLog}
use Rattle.octet_model.specs.Thread.{AccessOrEnd, ToEnd, demanded, configuration_after, starting_configuration, FitsFrom, FitsToEnd}
use Rattle.octet_model.specs.Machine.{Journals, journal_of, PlainState, starting_state, Behavior, after, IsFront, IsOrder}
use Rattle.octet_model.specs.Journals.{next_by_log}
use Rattle.octet_model.specs.HappensBefore.{IsOrdered}
use Rattle.octet_model.specs.Frugal.{IsFrugal}

-- the fuel of each thread, the objects' starting values, and the threads' commands
pub record Plan : Type 0 where
  pub fuel : ℕ
  pub starts : List ℕ
  pub threads : List (List Command)

-- the commands of a thread
abbrev pub commands_of : Plan → ℕ → List Command
commands_of plan thread = get_or plan.threads thread []

-- the log of a thread
abbrev pub thread_log_of : List ThreadLog → ℕ → ThreadLog
thread_log_of log thread = get_or log thread (record { accesses = 0; marks = [] })

-- what the threads of a plan do next by a log
abbrev pub by_log : Plan → List ThreadLog → Behavior
by_log plan log thread journal = next_by_log (commands_of plan thread) (starting_configuration plan.fuel) (thread_log_of log thread) journal

-- the state of a plan before the first step
abbrev pub opening_state : Plan → PlainState
opening_state plan = starting_state plan.starts plan.threads

-- the state after a front of a plan and a log
abbrev pub state_after : Plan → List ThreadLog → List ℕ → PlainState
state_after plan log order = after (by_log plan log) (opening_state plan) order

-- a lawful front is a front of a plan and a log that have equally many threads
abbrev pub IsLawfulFront : Plan → List ThreadLog → List ℕ → Type 0
IsLawfulFront plan log front = (length plan.threads ≡ length log) × IsFront (by_log plan log) (opening_state plan) front

-- a lawful order is an order of a plan and a log that have equally many threads
abbrev pub IsLawfulOrder : Plan → List ThreadLog → List ℕ → Type 0
IsLawfulOrder plan log order = (length plan.threads ≡ length log) × IsOrder (by_log plan log) (opening_state plan) order

-- the journals after a front, with their values
abbrev pub journals_after : Plan → List ThreadLog → List ℕ → Journals
journals_after plan log order = (state_after plan log order).journals

-- the values that a thread read, in order
abbrev pub values_read : List Event → List ℕ
values_read [] = []
values_read (Read object value ∷ journal) = value ∷ values_read journal
values_read (Write object value ∷ journal) = values_read journal
values_read (Update object before after ∷ journal) = values_read journal
values_read (Marked mark ∷ journal) = values_read journal

-- the end that a thread demands
abbrev pub end_of : AccessOrEnd → End
end_of (ToEnd end) = end
end_of _ = Spent

-- the end of each thread, by the journals
abbrev pub ends_of : ℕ → List (List Command) → Journals → List End
ends_of fuel [] journals = []
ends_of fuel (commands ∷ threads) [] = []
ends_of fuel (commands ∷ threads) (journal ∷ journals) =
    end_of (demanded commands (configuration_after commands (starting_configuration fuel) journal)) ∷ ends_of fuel threads journals

-- the ends, the values read and the heap of a state in which every thread is through
abbrev pub outcome_of : Plan → PlainState → Outcome
outcome_of plan s = record { ends = ends_of plan.fuel plan.threads s.journals; reads = map values_read s.journals; heap = s.heap }

-- the execution of a lawful order is its outcome
abbrev pub execution : Plan → List ThreadLog → List ℕ → Outcome
execution plan log order = outcome_of plan (state_after plan log order)

-- the journal fits its thread of a plan
abbrev pub FitsThread : Plan → ℕ → List Event → Type 0
FitsThread plan thread journal = FitsFrom (commands_of plan thread) (starting_configuration plan.fuel) journal

-- each journal fits its thread of a plan, which is then at its end
abbrev pub FitsPlan : Plan → Journals → Type 0
FitsPlan plan journals = (thread : ℕ) → thread < length journals → FitsToEnd (commands_of plan thread) (starting_configuration plan.fuel) (journal_of journals thread)

-- a faithful recording: there is a lawful order, and each lawful order has this outcome.
-- The journals of each lawful order are ordered and frugal
pub record IsFaithful (plan : Plan) (log : List ThreadLog) (outcome : Outcome) : Type 0 where
  pub order : List ℕ
  pub is_lawful : IsLawfulOrder plan log order
  pub outcomes : (order : List ℕ) → IsLawfulOrder plan log order → execution plan log order ≡ outcome
  pub ordered : (order : List ℕ) → IsLawfulOrder plan log order → IsOrdered (journals_after plan log order)
  pub frugal : (order : List ℕ) → IsLawfulOrder plan log order → IsFrugal (journals_after plan log order)
