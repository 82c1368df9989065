-- What becomes of a script and a log that are replayed in the lowest order.
use Rattle.std.specs.Prelude.{◌≡◌, ◌≢◌, ℕ, suc, ◌<◌, ◌≤◌, ◌⊎◌, List, length, map}
use Rattle.octet_model.specs.declared.event.Event.{Event}
use Rattle.octet_model.specs.declared.script.Script.{Script}
use Rattle.octet_model.specs.declared.log.ThreadLog.{ThreadLog}
use Rattle.octet_model.specs.Thread.{AccessOrEnd, ToEnd, demanded, configuration_after, starting_configuration}
use Rattle.octet_model.specs.Machine.{journal_of, PlainState, next_of, Finished}
use Rattle.octet_model.specs.Journals.{access_count, mark_count}
use Rattle.octet_model.specs.Orders.{commands_of, thread_log_of, by_log, lowest_order, state_after, IsLawfulOrder}
use Rattle.octet_replay.specs.declared.fault.ReplayFault.{ReplayFault}
use Rattle.octet_replay.specs.declared.fault.ReplayFault.TheVariants.{ThreadsDiffer, Stuck, Misfit, OutOfMemory}

-- the lowest order of the script and the log is lawful
abbrev pub IsLawful : Script → List ThreadLog → Type 0
IsLawful script log = IsLawfulOrder script log (lowest_order script log)

-- the state in which no thread may step any more
abbrev pub last_state : Script → List ThreadLog → PlainState
last_state script log = state_after script log (lowest_order script log)

-- the journal of a thread once no thread may step any more
abbrev pub last_journal : Script → List ThreadLog → ℕ → List Event
last_journal script log thread = journal_of (last_state script log).journals thread

-- what a thread demands once no thread may step any more
abbrev pub last_demand : Script → List ThreadLog → ℕ → AccessOrEnd
last_demand script log thread =
    demanded (commands_of script thread) (configuration_after (commands_of script thread) (starting_configuration script.fuel) (last_journal script log thread))

-- the demand is an end
abbrev pub DemandsEnd : AccessOrEnd → Type 0
DemandsEnd (ToEnd end) = Unit {0}
DemandsEnd _ = ⊥

-- the demand is an access
abbrev pub DemandsAccess : AccessOrEnd → Type 0
DemandsAccess (ToEnd end) = ⊥
DemandsAccess _ = Unit {0}

-- a thread that ends too early: it demands its end, and has made fewer accesses than its log says
pub record EndsEarly (demand : AccessOrEnd) (log : ThreadLog) (journal : List Event) : Type 0 where
  pub ends : DemandsEnd demand
  pub fewer : access_count journal < log.accesses

-- a thread that goes on too long: it demands one more access than its log says, and no mark of its log is left
pub record GoesOn (demand : AccessOrEnd) (log : ThreadLog) (journal : List Event) : Type 0 where
  pub demands : DemandsAccess demand
  pub made : access_count journal ≡ log.accesses
  pub no_mark_left : length log.marks ≤ mark_count journal

-- the number of accesses found of a thread that does not fit its log. A thread that ends early has made so many.
-- A thread that goes on has one more than its log says
abbrev pub Finds : AccessOrEnd → ThreadLog → List Event → ℕ → Type 0
Finds demand log journal found =
    (EndsEarly demand log journal × (found ≡ access_count journal)) ⊎ (GoesOn demand log journal × (found ≡ suc log.accesses))

-- the number of accesses found of a thread that does not fit its log, when no thread may step
abbrev pub FindsOf : Script → List ThreadLog → ℕ → ℕ → Type 0
FindsOf script log thread found = Finds (last_demand script log thread) (thread_log_of log thread) (last_journal script log thread) found

-- a misfit is a thread of which some number of accesses is found
abbrev pub IsMisfitThread : Script → List ThreadLog → ℕ → Type 0
IsMisfitThread script log thread = (found : ℕ) × FindsOf script log thread found

-- the thread has finished: it demands its end, and no access and no mark of its log is left
abbrev pub IsFinished : Script → List ThreadLog → ℕ → Type 0
IsFinished script log thread = next_of (by_log script log) (last_state script log) thread ≡ Finished

-- the numbers of threads of the script and of the log, which differ
pub record IsThreadsDiffer (script : Script) (log : List ThreadLog) (of_script of_log : ℕ) : Type 0 where
  pub script_has : of_script ≡ length script.threads
  pub log_has : of_log ≡ length log
  pub differ : of_script ≢ of_log

-- the thread is the lowest misfit. Its log says `wanted` accesses, and `found` are found of it
pub record IsMisfit (script : Script) (log : List ThreadLog) (thread wanted found : ℕ) : Type 0 where
  pub agree : length script.threads ≡ length log
  pub within : thread < length log
  pub wants : wanted ≡ (thread_log_of log thread).accesses
  pub finds : FindsOf script log thread found
  pub lowest : (lower : ℕ) → lower < thread → ¬ IsMisfitThread script log lower

-- no thread is a misfit, but some thread has not finished. These are the numbers of events that the threads made
pub record IsStuck (script : Script) (log : List ThreadLog) (positions : List ℕ) : Type 0 where
  pub agree : length script.threads ≡ length log
  pub fit : (thread : ℕ) → thread < length log → ¬ IsMisfitThread script log thread
  pub waits : (thread : ℕ) × (thread < length log) × ¬ IsFinished script log thread
  pub made : positions ≡ map (λ journal. length journal) (last_state script log).journals

-- the refusal of a replay has its cause. Out of memory alone may come at any time
abbrev pub HasCause : Script → List ThreadLog → ReplayFault → Type 0
HasCause script log (ThreadsDiffer of_script of_log) = IsThreadsDiffer script log of_script of_log
HasCause script log (Stuck positions) = IsStuck script log positions
HasCause script log (Misfit thread wanted found) = IsMisfit script log thread wanted found
HasCause script log OutOfMemory = Unit {0}
