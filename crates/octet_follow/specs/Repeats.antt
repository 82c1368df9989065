-- What a course by the marks of a recording comes to.
use Rattle.std.specs.Prelude.{◌≡◌, ℕ, ◌<◌, ◌≤◌, List, ◌++◌, length, slice_index_or}
use Rattle.octet_model.specs.declared.log.Gapped.{Gapped}
use Rattle.octet_model.specs.declared.log.ThreadLog.{ThreadLog}
use Rattle.octet_model.specs.Machine.{Journals, journal_of, PlainState}
use Rattle.octet_model.specs.Plans.{thread_log_of}
use Rattle.octet_follow.specs.declared.follower.Follower.{Follower}
use Rattle.octet_follow.specs.State.{CourseState, journals_of}
use Rattle.octet_follow.specs.Rule.{IsSeenBy}
use Rattle.octet_follow.specs.Calls.{view_of, journal_in, journals_in, given, given_after, accesses_given, IsComplete}
use Rattle.octet_follow.specs.Recordings.{Threads, IsRecording, IsDemandedBy, Ahead, AllFollow, IsDemandedToEnd, Begins}

-- where each thread has made accesses that it demands, and the marks that a recording has before them,
-- what it has made is the beginning of what it made in the recording
abbrev pub KeepsIn : List ℕ → Journals → Type 0
KeepsIn starts journals = (threads : Threads) (log : List ThreadLog) (end : PlainState)
    → IsRecording threads starts log end → AllFollow threads log journals
    → (t : ℕ) → Begins (journal_of journals t) (journal_of end.journals t)

-- that is so in a state of the course in which this follower is as it is
pub record IsRecordedSoFar (follower : Follower) : Type 0 where
  pub state : CourseState
  pub seen : IsSeenBy (view_of follower) state
  pub own : journal_of (journals_of state) (view_of follower).number ≡ journal_in follower
  pub keeps : KeepsIn (view_of follower).starts (journals_of state)

-- a follower was told of the first marks and accesses of its thread in a log, and its accesses are what its thread demands
pub record HasBegun (threads : Threads) (log : List ThreadLog) (t : ℕ) (follower : Follower) : Type 0 where
  pub accesses : accesses_given follower ≤ (thread_log_of log t).accesses
  pub more : List Gapped
  pub marks : (thread_log_of log t).marks ≡ given follower ++ more
  pub ahead : Ahead more (given_after follower)
  pub demanded : IsDemandedBy (threads t) (journal_in follower)

-- all followers have begun so
pub record AllHaveBegun (threads : Threads) (log : List ThreadLog) (followers : List Follower) : Type 0 where
  pub many : length followers ≡ length log
  pub each : (t : ℕ) (none : Follower) → t < length followers → HasBegun threads log t (slice_index_or followers t none)

-- where all followers have begun a recording so, what each has made is the beginning of what it made in the recording
abbrev pub KeepsToRecording : List ℕ → List Follower → Type 0
KeepsToRecording starts followers = (threads : Threads) (log : List ThreadLog) (end : PlainState)
    → IsRecording threads starts log end → AllHaveBegun threads log followers
    → (t : ℕ) → Begins (journal_of (journals_in followers) t) (journal_of end.journals t)

-- a follower has come to its end, of the marks of its thread in a log and of what its thread demands
pub record HasFollowed (threads : Threads) (log : List ThreadLog) (t : ℕ) (follower : Follower) : Type 0 where
  pub marks : given follower ≡ (thread_log_of log t).marks
  pub accesses : accesses_given follower ≡ (thread_log_of log t).accesses
  pub complete : IsComplete follower
  pub demanded : IsDemandedToEnd (threads t) (journal_in follower)

-- all followers have come to their ends so
pub record AllHaveFollowed (threads : Threads) (log : List ThreadLog) (followers : List Follower) : Type 0 where
  pub many : length followers ≡ length log
  pub each : (t : ℕ) (none : Follower) → t < length followers → HasFollowed threads log t (slice_index_or followers t none)

-- where all followers have come to their ends so, each has made what it made in the recording,
-- and the cells are those at the recording's end
abbrev pub RepeatsRecording : List ℕ → List Follower → List ℕ → Type 0
RepeatsRecording starts followers heap = (threads : Threads) (log : List ThreadLog) (end : PlainState)
    → IsRecording threads starts log end → AllHaveFollowed threads log followers
    → (journals_in followers ≡ end.journals) × (heap ≡ end.heap)
