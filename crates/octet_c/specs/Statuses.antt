-- The statuses, and what C is told with them.
use Rattle.std.specs.Prelude.{◌≡◌, ℕ, ℤ, Bool, true, false, Option, Some, None, Result, Ok, Err}
use Rattle.std.specs.declared.convert.Infallible.{Infallible}
use Rattle.octet_rerun.specs.Reruns.{made_by, recorded_of, Begins}
use Rattle.octet_rerun.specs.declared.halt.Halt.{Halt}
use Rattle.octet_rerun.specs.declared.halt.Halt.TheVariants as halt
use Rattle.octet_recorder.specs.declared.access.Access.{Access}
use Rattle.octet_session.specs.Standing.{Standing}
use Rattle.octet_session.specs.Again.{second_standing, HasMadeAll, IsSecondReason}
use Rattle.octet_session.specs.Recording.{track_standing, AnswersAndMakes, IsTrackReason}
use Rattle.octet_host.specs.declared.answer.Answer.{Answer}
use Rattle.octet_host.specs.declared.answer.Answer.TheVariants as answer
use Rattle.octet_stream.specs.declared.long_run.Full.{Full}
use Rattle.octet_stream.specs.declared.long_rerun.Halt.{Halt as LongHalt}
use Rattle.octet_stream.specs.declared.long_rerun.Halt.TheVariants as long_halt
use Rattle.octet_stream.specs.Accesses as long
use Rattle.octet_stream.specs.Followers.{follower_standing, IsFollowerReason, HasFollowed}
use Rattle.octet_host_long.specs.declared.recorded.LongRecorded.{LongRecorded}
use Rattle.octet_host_long.specs.declared.repeated.LongRepeated.{LongRepeated}
use Rattle.octet_host_long.specs.Threads as threads
use Rattle.octet_host_script.specs.declared.recorded.Recorded.{Recorded}
use Rattle.octet_host_script.specs.declared.repeated.Repeated.{Repeated}
use Rattle.octet_host_script.specs.Threads.{recorder_of, rerun_of, Glances}
use Rattle.octet_c.specs.declared.held.Held.{Held}
use Rattle.octet_c.specs.declared.held.Held.TheVariants as held
use Rattle.octet_host.specs.declared.stage.Stage.{Stage}
use Rattle.octet_host.specs.declared.stage.Stage.TheVariants.{Resting, Idle}
use Rattle.octet_host.specs.declared.misuse.Misuse.{Misuse}
use Rattle.octet_host.specs.declared.misuse.Misuse.TheVariants as misuse
use Rattle.octet_c.specs.declared.status.TheConstants as status
use Rattle.octet_host.specs.Calls.{Reasons, Goes, BeginsNext, IsNoRest, IsNotIdle, Does, Accesses, GoesOn, Ends}

-- the status of a call that the state of its thread does not allow
abbrev pub status_of : Misuse → ℤ
status_of misuse.Resting = status.RESTING
status_of misuse.Running = status.RUNNING
status_of misuse.Begun = status.BEGUN
status_of misuse.NotBegun = status.NOT_BEGUN
status_of misuse.NoSuchObject = status.NO_OBJECT
status_of misuse.Spent = status.SPENT

-- of a handle that lacks what a call takes: it is empty, which has a status of its own, or has something else
abbrev pub said_of_lack : ℤ → Option Held → ℤ
said_of_lack empty None = empty
said_of_lack empty (Some it) = status.OTHER_KIND

-- of a call without a value
abbrev pub status_done : Result (Unit {0}) Misuse → ℤ
status_done (Ok nothing) = status.READY
status_done (Err said) = status_of said

-- an access that is made has its value; no other answer tells one, but for that of a thread that goes on no more
abbrev pub Tells : {H : Type 0} → (H → ℤ → ℕ → ℕ → Type 0) → Answer H → ℤ → ℕ → ℕ → Type 0
Tells Halts (answer.Ready value) said before out = (said ≡ status.READY) × (out ≡ value)
Tells Halts answer.Pending said before out = (said ≡ status.PENDING) × (out ≡ before)
Tells Halts (answer.Refused why) said before out = (said ≡ status_of why) × (out ≡ before)
Tells Halts (answer.Left halt) said before out = Halts halt said before out

-- a recorded thread always goes on
abbrev pub NeverHalts : Infallible → ℤ → ℕ → ℕ → Type 0
NeverHalts halt said before out = ⊥

-- a thread that has left its recording is told how many accesses it has made
abbrev pub Halts : Halt → ℤ → ℕ → ℕ → Type 0
Halts (halt.Diverges divergence) said before out = (said ≡ status.DIVERGED) × (out ≡ divergence.accesses)
Halts (halt.Stopped divergence) said before out = (said ≡ status.HALTED) × (out ≡ before)
Halts halt.Amiss said before out = (said ≡ status.HALTED) × (out ≡ before)
Halts (halt.Waits whom needs found) said before out = (said ≡ status.PENDING) × (out ≡ before)

-- a thread of a run of any length has made as many accesses as a thread may make
abbrev pub IsSpent : Full → ℤ → ℕ → ℕ → Type 0
IsSpent full said before out = (said ≡ status.SPENT) × (out ≡ before)

-- a thread that has left the recording of such a run is told how many accesses it has made. One whose recording ends is over
abbrev pub LongHalts : LongHalt → ℤ → ℕ → ℕ → Type 0
LongHalts (long_halt.Diverges divergence) said before out = (said ≡ status.DIVERGED) × (out ≡ divergence.to)
LongHalts (long_halt.Stopped divergence) said before out = (said ≡ status.HALTED) × (out ≡ before)
LongHalts long_halt.RecordingEnds said before out = (said ≡ status.OVER) × (out ≡ before)
LongHalts long_halt.Amiss said before out = (said ≡ status.HALTED) × (out ≡ before)

-- the end of a thread tells a value only where the thread goes on no more
abbrev pub TellsEnd : {H : Type 0} → (H → ℤ → ℕ → ℕ → Type 0) → Answer H → ℤ → ℕ → ℕ → Type 0
TellsEnd Halts (answer.Ready value) said before out = (said ≡ status.READY) × (out ≡ before)
TellsEnd Halts answer.Pending said before out = (said ≡ status.PENDING) × (out ≡ before)
TellsEnd Halts (answer.Refused why) said before out = (said ≡ status_of why) × (out ≡ before)
TellsEnd Halts (answer.Left halt) said before out = Halts halt said before out

-- what a call does, in a run with so many objects: what its session says of an access that is not made, the status, and how
-- the thread stands before and after
abbrev pub Effect : Type 0 → Type 1
Effect H = ℕ → Reasons H → ℤ → Stage → Standing → Stage → Standing → Type 0

-- a call without a value
abbrev pub Called : {H : Type 0} → (Stage → Standing → Stage → Standing → Type 0) → (Stage → Misuse → Type 0) → Effect H
Called Done Refused objects Why said s v t w = (called : Result (Unit {0}) Misuse) × (said ≡ status_done called) × Does Done Refused called s v t w

-- an access is begun
pub record Accessed {H : Type 0} (Leaves : H → ℤ → ℕ → ℕ → Type 0) (wanted : Access) (before out objects : ℕ) (Why : Reasons H) (said : ℤ) (s : Stage) (v : Standing) (t : Stage) (w : Standing) : Type 0 where
  pub given : Answer H
  pub tells : Tells Leaves given said before out
  pub accesses : Accesses Why objects wanted s v given t w

-- an access goes on
pub record Polled {H : Type 0} (Leaves : H → ℤ → ℕ → ℕ → Type 0) (before out objects : ℕ) (Why : Reasons H) (said : ℤ) (s : Stage) (v : Standing) (t : Stage) (w : Standing) : Type 0 where
  pub given : Answer H
  pub tells : Tells Leaves given said before out
  pub goes_on : GoesOn Why s v given t w

-- a call of a thread that is recorded. It stays in its run
abbrev pub OnRecorded : Effect Infallible → Recorded → ℤ → Recorded → Type 0
OnRecorded Has it said that =
    (that.heap ≡ it.heap) × Has it.objects (λ asked. IsTrackReason asked it.track that.track) said it.stage (track_standing (recorder_of it) it.track) that.stage (track_standing (recorder_of that) that.track)

-- a call of a thread that is run again. It stays in its run, and what it has made is the beginning of what was recorded of it
abbrev pub OnRepeated : Effect Halt → Repeated → ℤ → Repeated → Type 0
OnRepeated Has it said that =
    (that.course ≡ it.course) × Begins (made_by that.thread.follower) (recorded_of (rerun_of that) that.thread.follower.thread)
    × Has it.objects (λ asked. IsSecondReason (rerun_of that) asked that.thread) said it.stage (second_standing it.thread) that.stage (second_standing that.thread)

-- a thread of a second run ends. It has made all of its recording where it is ready
abbrev pub EndsRepeated : ℕ → ℕ → Repeated → ℤ → Repeated → Type 0
EndsRepeated before out it said that =
    OnRepeated (λ objects Why said s v t w. (given : Answer Halt) × TellsEnd Halts given said before out × Ends Why (HasMadeAll (rerun_of that) that.thread) s v given t w) it said that

-- the status of a safe point: whether a thread had asked
abbrev pub status_asked : Result Bool Misuse → ℤ
status_asked (Ok false) = status.READY
status_asked (Ok true) = status.ANSWERED
status_asked (Err said) = status_of said

-- a safe point of a thread that is recorded
abbrev pub PassesRecorded : Recorded → ℤ → Recorded → Type 0
PassesRecorded it said that = (that.heap ≡ it.heap) × ((passed : Result Bool Misuse) × (said ≡ status_asked passed) × Glances passed it that)

-- so does one of any length
abbrev pub PassesLong : LongRecorded → ℤ → LongRecorded → Type 0
PassesLong it said that = (that.heap ≡ it.heap) × ((passed : Result Bool Misuse) × (said ≡ status_asked passed) × threads.Glances passed it that)

-- a call of a thread that is recorded at any length. It stays in its run
abbrev pub OnLongRecorded : Effect Full → LongRecorded → ℤ → LongRecorded → Type 0
OnLongRecorded Has it said that =
    (that.heap ≡ it.heap) × Has it.objects (λ asked. long.IsTrackReason asked it.track that.track) said it.stage (long.track_standing it.track) that.stage (long.track_standing that.track)

-- a call of a thread of such a run that is made again. It stays in its run
abbrev pub OnLongRepeated : Effect LongHalt → LongRepeated → ℤ → LongRepeated → Type 0
OnLongRepeated Has it said that =
    (that.course ≡ it.course) × Has it.objects (λ asked. IsFollowerReason (threads.rerun_of that) asked that.thread.thread) said it.stage (follower_standing it.thread.thread) that.stage (follower_standing that.thread.thread)

-- a thread that is recorded at any length ends. It has handed on all that it has made, and its end, where it is ready
abbrev pub EndsLongRecorded : ℕ → ℕ → LongRecorded → ℤ → LongRecorded → Type 0
EndsLongRecorded before out it said that =
    OnLongRecorded (λ objects Why said s v t w. (given : Answer Full) × TellsEnd IsSpent given said before out × Ends Why (long.TrackHasEnded that.track) s v given t w) it said that

-- a thread of such a run that is made again ends. It has made all that was recorded of it where it is ready
abbrev pub EndsLongRepeated : ℕ → ℕ → LongRepeated → ℤ → LongRepeated → Type 0
EndsLongRepeated before out it said that =
    OnLongRepeated (λ objects Why said s v t w. (given : Answer LongHalt) × TellsEnd LongHalts given said before out × Ends Why (HasFollowed that.thread.thread) s v given t w) it said that

-- a call for the thread that is held, if one is
abbrev pub OnThread : (Recorded → ℤ → Recorded → Type 0) → (Repeated → ℤ → Repeated → Type 0) → (LongRecorded → ℤ → LongRecorded → Type 0) → (LongRepeated → ℤ → LongRepeated → Type 0) → Held → ℤ → Held → Type 0
OnThread Records Repeats Tracks Follows (held.Recorded it) said (held.Recorded that) = Records it said that
OnThread Records Repeats Tracks Follows (held.Recorded it) said _ = ⊥
OnThread Records Repeats Tracks Follows (held.Repeated it) said (held.Repeated that) = Repeats it said that
OnThread Records Repeats Tracks Follows (held.Repeated it) said _ = ⊥
OnThread Records Repeats Tracks Follows (held.LongRecorded it) said (held.LongRecorded that) = Tracks it said that
OnThread Records Repeats Tracks Follows (held.LongRecorded it) said _ = ⊥
OnThread Records Repeats Tracks Follows (held.LongRepeated it) said (held.LongRepeated that) = Follows it said that
OnThread Records Repeats Tracks Follows (held.LongRepeated it) said _ = ⊥
OnThread Records Repeats Tracks Follows it said that = (said ≡ status.OTHER_KIND) × (that ≡ it)

-- the thread starts
abbrev pub Starts : Held → ℤ → Held → Type 0
Starts =
    OnThread (OnRecorded (Called (Goes Resting Idle) IsNoRest)) (OnRepeated (Called (Goes Resting Idle) IsNoRest))
    (OnLongRecorded (Called (Goes Resting Idle) IsNoRest)) (OnLongRepeated (Called (Goes Resting Idle) IsNoRest))

-- it is stopped
abbrev pub Stops : Held → ℤ → Held → Type 0
Stops =
    OnThread (OnRecorded (Called (Goes Idle Resting) IsNotIdle)) (OnRepeated (Called (Goes Idle Resting) IsNotIdle))
    (OnLongRecorded (Called (Goes Idle Resting) IsNotIdle)) (OnLongRepeated (Called (Goes Idle Resting) IsNotIdle))

-- it ends. A recorded thread of a script is stopped
abbrev pub EndsThread : ℕ → ℕ → Held → ℤ → Held → Type 0
EndsThread before out =
    OnThread (OnRecorded (Called (Goes Idle Resting) IsNotIdle)) (EndsRepeated before out) (EndsLongRecorded before out) (EndsLongRepeated before out)

-- a region begins with its next access
abbrev pub BeginsRegionNext : Held → ℤ → Held → Type 0
BeginsRegionNext =
    OnThread (OnRecorded (Called BeginsNext IsNotIdle)) (OnRepeated (Called BeginsNext IsNotIdle))
    (OnLongRecorded (Called BeginsNext IsNotIdle)) (OnLongRepeated (Called BeginsNext IsNotIdle))

-- it passes a safe point
abbrev pub Passes : Held → ℤ → Held → Type 0
Passes =
    OnThread PassesRecorded (OnRepeated (Called (Goes Idle Idle) IsNotIdle))
    PassesLong (OnLongRepeated (Called (Goes Idle Idle) IsNotIdle))

-- a recorded thread begins an access. Where it is ready, a poll made it, after a safe point
abbrev pub AccessesRecorded : Access → ℕ → ℕ → Recorded → ℤ → Recorded → Type 0
AccessesRecorded wanted before out it said that = OnRecorded (Accessed NeverHalts wanted before out) it said that × (said ≡ status.READY → AnswersAndMakes wanted it.track that.track)

-- so does one of any length
abbrev pub AccessesLong : Access → ℕ → ℕ → LongRecorded → ℤ → LongRecorded → Type 0
AccessesLong wanted before out it said that = OnLongRecorded (Accessed IsSpent wanted before out) it said that × (said ≡ status.READY → long.AnswersAndMakes wanted it.track that.track)

-- it begins an access
abbrev pub AccessesNext : Access → ℕ → ℕ → Held → ℤ → Held → Type 0
AccessesNext wanted before out =
    OnThread (AccessesRecorded wanted before out) (OnRepeated (Accessed Halts wanted before out))
    (AccessesLong wanted before out) (OnLongRepeated (Accessed LongHalts wanted before out))

-- it goes on with an access
abbrev pub Polls : ℕ → ℕ → Held → ℤ → Held → Type 0
Polls before out =
    OnThread (OnRecorded (Polled NeverHalts before out)) (OnRepeated (Polled Halts before out))
    (OnLongRecorded (Polled IsSpent before out)) (OnLongRepeated (Polled LongHalts before out))

-- a call for what is behind a handle, if anything is
abbrev pub OnHandle : (Held → ℤ → Held → Type 0) → Option Held → ℤ → Option Held → Type 0
OnHandle On (Some it) said (Some that) = On it said that
OnHandle On (Some it) said None = ⊥
OnHandle On None said after = (said ≡ status.NO_SESSION) × (after ≡ None)

-- an access is begun by what is behind a handle, if C has named one; else nothing has changed
abbrev pub AsksHandle : Option Access → ℤ → Option Held → ℤ → ℕ → ℕ → Option Held → Type 0
AsksHandle (Some wanted) unnamed before said out now after = OnHandle (AccessesNext wanted out now) before said after
AsksHandle None unnamed before said out now after = (said ≡ unnamed) × (now ≡ out) × (after ≡ before)
