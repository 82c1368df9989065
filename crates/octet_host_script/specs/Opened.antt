-- What a clause says of threads at the beginning of a run.
use Rattle.std.specs.Prelude.{◌≡◌, ℕ, ◌<◌, false, List, [], length, Some, None, slice_index_or}
use Rattle.std.specs.Arc.{arc_value}
use Rattle.octet_parallel.specs.Calls.{script_in, log_in}
use Rattle.octet_recorder.specs.declared.recorder.Recorder.{Recorder}
use Rattle.octet_recorder.specs.Tracks.{lines_in, threads_in}
use Rattle.octet_rerun.specs.declared.rerun.Rerun.{Rerun}
use Rattle.octet_script.specs.Spelling.{Spells}
use Rattle.octet_session.specs.Again.{second_standing}
use Rattle.octet_session.specs.Recording.{track_standing}
use Rattle.octet_session.specs.Standing.{Standing}
use Rattle.octet_host.specs.declared.stage.Stage.TheVariants.{Resting}
use Rattle.octet_host.specs.Sealed.{ShareOne}
use Rattle.octet_host_script.specs.declared.recorded.Recorded.{Recorded}
use Rattle.octet_host_script.specs.declared.repeated.Repeated.{Repeated}
use Rattle.octet_host_script.specs.Spelled.{IsSpelled}
use Rattle.octet_host_script.specs.Threads.{recorder_of, course_of, rerun_of}

-- the thread of this number has made nothing, and may have so many lines in its recording
pub record IsFirst (thread lines : ℕ) (v : Standing) : Type 0 where
  pub number : v.number ≡ thread
  pub journal : v.journal ≡ []
  pub begun : v.begun ≡ None
  pub region : v.region ≡ false
  pub left : v.left ≡ Some lines

-- this thread of a recorder, which is off and has made nothing
pub record IsFirstOf (recorder : Recorder) (thread : ℕ) (it : Recorded) : Type 0 where
  pub recorder_is : recorder_of it ≡ recorder
  pub stage : it.stage ≡ Resting
  pub first : IsFirst thread (lines_in recorder) (track_standing (recorder_of it) it.track)

-- this thread of a second run, which is off and has made nothing
pub record IsFirstAgain (rerun : Rerun) (thread : ℕ) (it : Repeated) : Type 0 where
  pub rerun_is : rerun_of it ≡ rerun
  pub stage : it.stage ≡ Resting
  pub first : IsFirst thread (script_in rerun.field).fuel (second_standing it.thread)

-- in each place stands that thread of a recorder
abbrev pub EachFirst : Recorder → List Recorded → Type 0
EachFirst recorder threads = (thread : ℕ) (none : Recorded) → thread < length threads → IsFirstOf recorder thread (slice_index_or threads thread none)

-- in each place stands that thread of a second run
abbrev pub EachFirstAgain : Rerun → List Repeated → Type 0
EachFirstAgain rerun threads = (thread : ℕ) (none : Repeated) → thread < length threads → IsFirstAgain rerun thread (slice_index_or threads thread none)

-- the threads of a new run of the script that the text spells, in order
pub record Opens (text : List ℕ) (threads : List Recorded) : Type 0 where
  pub recorder : Recorder
  pub spelled : Spells text recorder.opening
  pub count : length threads ≡ threads_in recorder
  pub each : EachFirst recorder threads
  pub share : ShareOne (λ it. arc_value it.heap) threads

-- the threads of a second run by the script and the log that the bytes spell, in order
pub record Follows (text bytes : List ℕ) (threads : List Repeated) : Type 0 where
  pub rerun : Rerun
  pub spelled : IsSpelled text bytes (script_in rerun.field) (log_in rerun.field).threads
  pub count : length threads ≡ length (log_in rerun.field).threads
  pub each : EachFirstAgain rerun threads
  pub share : ShareOne course_of threads
