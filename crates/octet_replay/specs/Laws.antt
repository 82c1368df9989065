-- The laws of the outcomes of a replay, as the public functions of laws.rt prove them.
use Rattle.std.specs.Prelude.{◌≡◌, ◌≢◌, ◌⊎◌, ◌==◌, ℕ, suc, List, [], ◌∷◌, length, map, IsFalse}
use Rattle.std.specs.List.{filter}
use Rattle.octet_model.specs.declared.event.Event.{Event}
use Rattle.octet_model.specs.declared.event.Place.{Place}
use Rattle.octet_model.specs.declared.outcome.Outcome.{Outcome}
use Rattle.octet_model.specs.declared.script.Script.{Script}
use Rattle.octet_model.specs.declared.log.ThreadLog.{ThreadLog}
use Rattle.octet_model.specs.Machine.{journal_of, may_step}
use Rattle.octet_model.specs.Orders.{by_log, lowest_order, execution, journals_after, IsFaithful}
use Rattle.octet_model.specs.Traces.{trace_of}
use Rattle.octet_replay.specs.declared.fault.ReplayFault.{ReplayFault}
use Rattle.octet_replay.specs.declared.fault.ReplayFault.TheVariants.{OutOfMemory}
use Rattle.octet_replay.specs.Judged.{last_state, IsLawful, HasCause}

-- an outcome with an end and the values read for each thread of the script, and a value for each object
pub record IsWholeOutcome (script : Script) (outcome : Outcome) : Type 0 where
  pub ends : length outcome.ends ≡ length script.threads
  pub reads : length outcome.reads ≡ length script.threads
  pub heap : length outcome.heap ≡ length script.objects

-- either the lowest order is lawful, or one of the refusals has its cause
abbrev pub LawfulOrRefused : Type 0
LawfulOrRefused = (script : Script) (log : List ThreadLog)
    → IsLawful script log ⊎ ((fault : ReplayFault) × (fault ≢ OutOfMemory) × HasCause script log fault)

-- no refusal has its cause, where the lowest order is lawful
abbrev pub LawfulIsNotRefused : Type 0
LawfulIsNotRefused = (script : Script) (log : List ThreadLog) (fault : ReplayFault)
    → IsLawful script log → fault ≢ OutOfMemory → ¬ HasCause script log fault

-- only one refusal has its cause, with its numbers
abbrev pub OneRefusal : Type 0
OneRefusal = (script : Script) (log : List ThreadLog) (fault other : ReplayFault)
    → fault ≢ OutOfMemory → other ≢ OutOfMemory → HasCause script log fault → HasCause script log other → fault ≡ other

-- the lowest order of a faithful recording is lawful, and gives its outcome
abbrev pub FaithfulIsLawful : Type 0
FaithfulIsLawful = (script : Script) (log : List ThreadLog) (outcome : Outcome) → IsFaithful script log outcome
    → IsLawful script log × (execution script log (lowest_order script log) ≡ outcome)

-- each execution is a whole outcome
abbrev pub ExecutionIsWhole : Type 0
ExecutionIsWhole = (script : Script) (log : List ThreadLog) (order : List ℕ) → IsWholeOutcome script (execution script log order)

-- the events of one thread in a trace
abbrev pub told_of : ℕ → List (Place × Event) → List (Place × Event)
told_of thread trace = filter (λ item. item.0.thread == thread) trace

-- the events of a thread with their places, numbered from this number on
abbrev pub placed_from : ℕ → List Event → ℕ → List (Place × Event)
placed_from thread [] number = []
placed_from thread (event ∷ journal) number = (record { thread = thread; event = number }, event) ∷ placed_from thread journal (suc number)

-- the events of a thread in the trace of the lowest order are its journal, at the places 0, 1, 2 and on
abbrev pub TraceHasJournals : Type 0
TraceHasJournals = (script : Script) (log : List ThreadLog) (thread : ℕ)
    → told_of thread (trace_of script log) ≡ placed_from thread (journal_of (journals_after script log (lowest_order script log)) thread) 0

-- the events of the trace are of the threads that step, in their order
abbrev pub TraceFollowsOrder : Type 0
TraceFollowsOrder = (script : Script) (log : List ThreadLog) → map (λ item. item.0.thread) (trace_of script log) ≡ lowest_order script log

-- no thread may step after the events of the trace
abbrev pub TraceIsWhole : Type 0
TraceIsWhole = (script : Script) (log : List ThreadLog) (thread : ℕ) → length script.threads ≡ length log → IsFalse (may_step (by_log script log) (last_state script log) thread)
