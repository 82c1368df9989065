-- A faithful recording of a plan is a recording of the threads of that plan.
use Rattle.std.specs.Prelude.{◌≡◌, ℕ, List, map}
use Rattle.octet_model.specs.declared.log.ThreadLog.{ThreadLog}
use Rattle.octet_model.specs.declared.outcome.Outcome.{Outcome}
use Rattle.octet_model.specs.Machine.{PlainState}
use Rattle.octet_model.specs.Thread.{AccessOrEnd, added, demanded, configuration_after, starting_configuration}
use Rattle.octet_model.specs.Thread as thread
use Rattle.octet_model.specs.Plans.{Plan, commands_of, outcome_of, values_read, IsFaithful}
use Rattle.octet_follow.specs.declared.follower.Follower.{Follower}
use Rattle.octet_follow.specs.Calls.{journals_in}
use Rattle.octet_follow.specs.Recordings.{Demand, ToRead, ToWrite, ToUpdate, ToEnd, Threads, IsRecording}
use Rattle.octet_follow.specs.Repeats.{AllHaveFollowed}

-- what a thread of a plan demands. A bump is an update that adds its amount
abbrev pub demand_in : AccessOrEnd → Demand
demand_in (thread.ToRead object) = ToRead object
demand_in (thread.ToWrite object value) = ToWrite object value
demand_in (thread.ToBump object amount) = ToUpdate object (added amount)
demand_in (thread.ToEnd end) = ToEnd

-- the threads of a plan
abbrev pub threads_of : Plan → Threads
threads_of plan thread journal = demand_in (demanded (commands_of plan thread) (configuration_after (commands_of plan thread) (starting_configuration plan.fuel) journal))

-- the log is a recording of the plan's threads, which ends with this outcome
pub record IsRecordingOf (plan : Plan) (log : List ThreadLog) (outcome : Outcome) : Type 0 where
  pub end : PlainState
  pub recording : IsRecording (threads_of plan) plan.starts log end
  pub comes : outcome_of plan end ≡ outcome

-- a faithful recording of a plan is a recording of its threads, with its outcome
abbrev pub FaithfulIsRecording : Type 0
FaithfulIsRecording = (plan : Plan) (log : List ThreadLog) (outcome : Outcome) → IsFaithful plan log outcome → IsRecordingOf plan log outcome

-- where all followers have followed a faithful recording of a plan, the cells are those of its outcome,
-- and each thread has read what it read in the recording
abbrev pub RepeatsPlan : List ℕ → List Follower → List ℕ → Type 0
RepeatsPlan starts followers heap = (plan : Plan) (log : List ThreadLog) (outcome : Outcome)
    → IsFaithful plan log outcome → starts ≡ plan.starts → AllHaveFollowed (threads_of plan) log followers
    → (heap ≡ outcome.heap) × (map values_read (journals_in followers) ≡ outcome.reads)
