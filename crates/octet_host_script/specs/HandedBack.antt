-- Why a run that is kept as a script is not ended.
use Rattle.std.specs.Prelude.{◌≡◌, ℕ, ◌<◌, List, None}
use Rattle.octet_log.specs.declared.limits.TheConstants.{MAX_MARKS}
use Rattle.octet_log.specs.v2.Pieces.{marks_in}
use Rattle.octet_parallel.specs.Calls.{players_in}
use Rattle.octet_recorder.specs.declared.recorder.Recorder.{Recorder}
use Rattle.octet_recorder.specs.declared.recording.Recording.{Recording}
use Rattle.octet_recorder.specs.Tracks.{number_of, threads_in}
use Rattle.octet_rerun.specs.declared.follower.Follower.{Follower}
use Rattle.octet_rerun.specs.declared.halt.Halt.{Halt}
use Rattle.octet_rerun.specs.Reruns.{MakesMarks, Halts}
use Rattle.octet_host.specs.declared.fault.CloseFault.{CloseFault}
use Rattle.octet_host.specs.declared.fault.CloseFault.TheVariants.{OutOfMemory, TooLong}
use Rattle.octet_host.specs.HandedBack.{Both, RefusesToClose}
use Rattle.octet_host_script.specs.declared.recorded.Recorded.{Recorded}
use Rattle.octet_host_script.specs.declared.repeated.Repeated.{Repeated}
use Rattle.octet_host_script.specs.Records.{IsRecordedBy}
use Rattle.octet_host_script.specs.Threads.{recorder_of, rerun_of}

-- a recorded thread has this number
abbrev pub IsRecordedAt : ℕ → ℕ → Recorded → Type 0
IsRecordedAt number threads it = number_of it.track ≡ number

-- its run has so many threads
abbrev pub IsRecordedAmong : ℕ → ℕ → Recorded → Type 0
IsRecordedAmong number threads it = threads_in (recorder_of it) ≡ threads

-- it has this number, in a run of so many
abbrev pub IsRecordedAs : ℕ → ℕ → Recorded → Type 0
IsRecordedAs = Both IsRecordedAt IsRecordedAmong

-- a thread that is run again has this number
abbrev pub IsRepeatedAt : ℕ → ℕ → Repeated → Type 0
IsRepeatedAt number threads it = it.thread.follower.thread ≡ number

-- its run has so many threads
abbrev pub IsRepeatedAmong : ℕ → ℕ → Repeated → Type 0
IsRepeatedAmong number threads it = players_in (rerun_of it).field ≡ threads

-- it has this number, in a run of so many
abbrev pub IsRepeatedAs : ℕ → ℕ → Repeated → Type 0
IsRepeatedAs = Both IsRepeatedAt IsRepeatedAmong

-- a thread makes the marks that are left, and has a reason why it has not made all of its recording
pub record LeavesSome (it : Repeated) : Type 0 where
  pub after : Follower
  pub halt : Halt
  pub marks : MakesMarks it.thread.follower after
  pub halts : Halts None (rerun_of it) after halt

-- a recording has more marks than a log may have
abbrev pub HasTooMany : Recording → Type 0
HasTooMany recording = MAX_MARKS < marks_in recording.log.threads

-- that of a recorder has
pub record RecordsTooMany (recorder : Recorder) : Type 0 where
  pub recording : Recording
  pub recorded : IsRecordedBy recorder recording
  pub too_many : HasTooMany recording

-- why a recording is not kept
abbrev pub RefusesToKeep : Recording → CloseFault → Type 0
RefusesToKeep recording OutOfMemory = Unit {0}
RefusesToKeep recording TooLong = HasTooMany recording
RefusesToKeep recording _ = ⊥

-- why the run of recorded threads is not ended
abbrev pub RefusesRecorded : List Recorded → CloseFault → Type 0
RefusesRecorded = RefusesToClose (λ it. it.stage) IsRecordedAt IsRecordedAmong (λ it. ⊥) (λ it. RecordsTooMany (recorder_of it))

-- why that of threads that are run again is not
abbrev pub RefusesRepeated : List Repeated → CloseFault → Type 0
RefusesRepeated = RefusesToClose (λ it. it.stage) IsRepeatedAt IsRepeatedAmong LeavesSome (λ it. ⊥)
