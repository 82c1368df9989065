-- The orders of a script and a log, and what comes of them: those of its plan.
use Rattle.std.specs.Prelude.{ℕ, zero, suc, ◌+◌, ◌<◌, Bool, true, false, List, [], ◌∷◌, length, map, Option, Some, None, IsTrue, IsFalse, sum_by}
use Rattle.octet_model.specs.declared.command.Command.{Command}
use Rattle.octet_model.specs.declared.event.Event.{Event}
use Rattle.octet_model.specs.declared.outcome.End.{End}
use Rattle.octet_model.specs.declared.outcome.End.TheVariants.{Done, Spent}
use Rattle.octet_model.specs.declared.outcome.Outcome.{Outcome}
use Rattle.octet_model.specs.declared.script.Script.{Script}
use Rattle.octet_model.specs.declared.log.ThreadLog.{ThreadLog}
use Rattle.octet_model.specs.Machine.{Journals, PlainState, Behavior, may_step, step}
use Rattle.octet_model.specs.Plans.{Plan}
use Rattle.octet_model.specs.Plans as plans
pub use Rattle.octet_model.specs.Plans.{thread_log_of, values_read, end_of, ends_of}

-- the objects' starting values
abbrev pub starting_heap : Script → List ℕ
starting_heap script = map (λ object. object.start) script.objects

-- the plan of a script
abbrev pub plan_of : Script → Plan
plan_of script = record { fuel = script.fuel; starts = starting_heap script; threads = script.threads }

-- the commands of a thread
abbrev pub commands_of : Script → ℕ → List Command
commands_of script thread = plans.commands_of (plan_of script) thread

-- what the threads of a script do next by a log
abbrev pub by_log : Script → List ThreadLog → Behavior
by_log script log thread journal = plans.by_log (plan_of script) log thread journal

-- the state of a script before the first step
abbrev pub opening_state : Script → PlainState
opening_state script = plans.opening_state (plan_of script)

-- the state after a front of a script and a log
abbrev pub state_after : Script → List ThreadLog → List ℕ → PlainState
state_after script log order = plans.state_after (plan_of script) log order

-- the lawful fronts of a script and a log
abbrev pub IsLawfulFront : Script → List ThreadLog → List ℕ → Type 0
IsLawfulFront script log front = plans.IsLawfulFront (plan_of script) log front

-- the lawful orders of a script and a log
abbrev pub IsLawfulOrder : Script → List ThreadLog → List ℕ → Type 0
IsLawfulOrder script log order = plans.IsLawfulOrder (plan_of script) log order

-- the journals after a front, with their values
abbrev pub journals_after : Script → List ThreadLog → List ℕ → Journals
journals_after script log order = plans.journals_after (plan_of script) log order

-- the ends, the values read and the heap of a state in which every thread is through
abbrev pub outcome_of : Script → PlainState → Outcome
outcome_of script s = plans.outcome_of (plan_of script) s

-- the test whether a thread came to its end with fuel to go on
abbrev pub is_done : End → Bool
is_done Done = true
is_done Spent = false

-- the execution of a lawful order is its outcome
abbrev pub execution : Script → List ThreadLog → List ℕ → Outcome
execution script log order = plans.execution (plan_of script) log order

-- the first number that passes the test, among `more` numbers from this one on
abbrev pub first_from : (ℕ → Bool) → ℕ → ℕ → Option ℕ
first_from test number zero = None
first_from test number (suc more) = elim (test number) [ true ↦ Some number | false ↦ first_from test (suc number) more ]

-- the lowest thread that may step
abbrev pub lowest : Behavior → PlainState → Option ℕ
lowest behavior s = first_from (may_step behavior s) 0 (length s.journals)

-- the lowest thread followed by the rest of its front, or no step at all
abbrev pub go_on : Option ℕ → (ℕ → List ℕ) → List ℕ
go_on None then = []
go_on (Some thread) then = thread ∷ then thread

-- the front that always steps the lowest thread that may step, for at most `steps` steps
abbrev pub lowest_front : Behavior → ℕ → PlainState → List ℕ
lowest_front behavior zero s = []
lowest_front behavior (suc steps) s = go_on (lowest behavior s) (λ thread. lowest_front behavior steps (step behavior s thread))

-- each step of the front is of the lowest thread that may step, and no thread may step after the last
abbrev pub IsLowestFront : Behavior → PlainState → List ℕ → Type 0
IsLowestFront behavior s [] = (thread : ℕ) → IsFalse (may_step behavior s thread)
IsLowestFront behavior s (thread ∷ front) =
    IsTrue (may_step behavior s thread)
    × ((lower : ℕ) → lower < thread → IsFalse (may_step behavior s lower))
    × IsLowestFront behavior (step behavior s thread) front

-- the number of events that a log has
abbrev pub event_total : List ThreadLog → ℕ
event_total log = sum_by (λ thread. thread.accesses + length thread.marks) log

-- the lowest order of a script and a log
abbrev pub lowest_order : Script → List ThreadLog → List ℕ
lowest_order script log = lowest_front (by_log script log) (event_total log) (opening_state script)

-- the journal fits its thread of a script
abbrev pub FitsThread : Script → ℕ → List Event → Type 0
FitsThread script thread journal = plans.FitsThread (plan_of script) thread journal

-- each journal fits its thread of a script, which is then at its end
abbrev pub FitsScript : Script → Journals → Type 0
FitsScript script journals = plans.FitsPlan (plan_of script) journals

-- a faithful recording of a script is one of its plan
abbrev pub IsFaithful : Script → List ThreadLog → Outcome → Type 0
IsFaithful script log outcome = plans.IsFaithful (plan_of script) log outcome
