-- How far a replayer has followed the lowest order, and what its next step is.
use Rattle.std.specs.Prelude.{◌≡◌, ℕ, suc, ◌<◌, ◌≤◌, List, length, take, slice_index, IsTrue, IsFalse}
use Rattle.octet_model.specs.declared.event.Event.{Event}
use Rattle.octet_model.specs.declared.script.Script.{Script}
use Rattle.octet_model.specs.declared.log.Log.{Log}
use Rattle.octet_model.specs.declared.log.ThreadLog.{ThreadLog}
use Rattle.octet_model.specs.Machine.{PlainState, journal_of, may_step, appended, next_of}
use Rattle.octet_model.specs.Orders.{by_log, commands_of, lowest_order, state_after}
use Rattle.octet_model.specs.Thread.{starting_configuration}
use Rattle.octet_interp.specs.Regions.{regions_before}
use Rattle.octet_replay.specs.declared.fault.ReplayFault.{ReplayFault}
use Rattle.octet_replay.specs.declared.fault.ReplayFault.TheVariants.{ThreadsDiffer, OutOfMemory}
use Rattle.octet_replay.specs.declared.next_step.LowestStep.{LowestStep}
use Rattle.octet_replay.specs.declared.stepped.Stepped.{Stepped}
use Rattle.octet_replay.specs.declared.stepped.Stepped.TheVariants.{Made, Halted}
use Rattle.octet_replay.specs.Judged.{IsThreadsDiffer}
use Rattle.octet_replay.specs.NextSteps.{as_next}

-- the state of a replay: a script, a log, and how many steps of their lowest order were made
pub record ReplayState : Type 0 where
  pub script : Script
  pub log : Log
  pub steps : ℕ

-- the plain machine's state after the first `steps` steps of the lowest order
abbrev pub state_at : Script → List ThreadLog → ℕ → PlainState
state_at script log steps = state_after script log (take steps (lowest_order script log))

-- the plain machine's state at this point of the replay
abbrev pub plain_state : ReplayState → PlainState
plain_state r = state_at r.script r.log.threads r.steps

-- no thread may step
abbrev pub HasHalted : ReplayState → Type 0
HasHalted r = (thread : ℕ) → IsFalse (may_step (by_log r.script r.log.threads) (plain_state r) thread)

-- the next step of the lowest order is of the thread, which may step, and makes the event
pub record IsNextStep (r : ReplayState) (thread : ℕ) (event : Event) : Type 0 where
  pub within : r.steps < length (lowest_order r.script r.log.threads)
  pub is_of : slice_index (lowest_order r.script r.log.threads) r.steps ≡ thread
  pub may : IsTrue (may_step (by_log r.script r.log.threads) (plain_state r) thread)
  pub makes : (state_at r.script r.log.threads (suc r.steps)).journals ≡ appended (plain_state r).journals thread event

-- the next step of the lowest order is of the thread, which may step
pub record IsNextThread (r : ReplayState) (thread : ℕ) : Type 0 where
  pub there : thread < length r.script.threads
  pub within : r.steps < length (lowest_order r.script r.log.threads)
  pub is_of : slice_index (lowest_order r.script r.log.threads) r.steps ≡ thread
  pub may : IsTrue (may_step (by_log r.script r.log.threads) (plain_state r) thread)

-- the next step of the lowest order is of the thread, and is what is next for it
pub record IsLowestStep (r : ReplayState) (step : LowestStep) : Type 0 where
  pub of_thread : IsNextThread r step.thread
  pub is : as_next step.next ≡ next_of (by_log r.script r.log.threads) (plain_state r) step.thread

-- the replay made one step more, or made none since no thread may step
abbrev pub StepsTo : ReplayState → Stepped → ReplayState → Type 0
StepsTo before (Made thread event) after = IsNextStep before thread event × (after ≡ record before { steps = suc before.steps })
StepsTo before Halted after = HasHalted before × (after ≡ before)

-- the replay made one step more, or several
pub record GoesOn (before after : ReplayState) : Type 0 where
  pub same_script : after.script ≡ before.script
  pub same_log : after.log ≡ before.log
  pub more : before.steps < after.steps
  pub within : after.steps ≤ length (lowest_order before.script before.log.threads)

-- the number of `region` commands that a thread has run before its next access,
-- or before its end where no access follows
abbrev pub regions_of : ReplayState → ℕ → ℕ
regions_of r thread = regions_before (commands_of r.script thread) (starting_configuration r.script.fuel) (journal_of (plain_state r).journals thread)

-- a replay is not begun where the numbers of threads differ. Out of memory alone may come at any time
abbrev pub IsNotBegun : Script → List ThreadLog → ReplayFault → Type 0
IsNotBegun script log (ThreadsDiffer of_script of_log) = IsThreadsDiffer script log of_script of_log
IsNotBegun script log OutOfMemory = Unit {0}
IsNotBegun script log _ = ⊥
