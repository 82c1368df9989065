-- What a clause says of the threads of a run that is kept as a script.
use Rattle.std.specs.Prelude.{◌≡◌, Bool, length, Result, Ok, Err}
use Rattle.std.specs.Arc.{arc_value}
use Rattle.octet_heap.specs.Workers.{seat_of}
use Rattle.octet_parallel.specs.Calls.{script_in}
use Rattle.octet_recorder.specs.declared.recorder.Recorder.{Recorder}
use Rattle.octet_recorder.specs.Tracks.{objects_in, IsTrackOf}
use Rattle.octet_rerun.specs.declared.rerun.Rerun.{Rerun}
use Rattle.octet_rerun.specs.Reruns.{made_by, recorded_of, Begins, IsFollowerOf}
use Rattle.octet_safe.specs.Replies.{PassesSafePoint}
use Rattle.octet_session.specs.Again.{second_standing, HasMadeAll}
use Rattle.octet_session.specs.Recording.{track_standing, TrackRuns, TrackRests}
use Rattle.octet_session.specs.Standing.{Standing}
use Rattle.octet_host.specs.Calls.{Goes, IsNotIdle}
use Rattle.octet_host.specs.declared.misuse.Misuse.{Misuse}
use Rattle.octet_host.specs.declared.stage.Stage.{Stage}
use Rattle.octet_host.specs.declared.stage.Stage.TheVariants.{Idle}
use Rattle.octet_host.specs.Stages.{StandsAt}
use Rattle.octet_host_script.specs.declared.recorded.Recorded.{Recorded}
use Rattle.octet_host_script.specs.declared.repeated.Course.{Course}
use Rattle.octet_host_script.specs.declared.repeated.Repeated.{Repeated}

-- the recorder of a thread that is recorded
abbrev pub recorder_of : Recorded → Recorder
recorder_of it = (arc_value it.heap).recorder

-- its track is one of the recorder's, and stands where the stage says
pub record IsRecorded (it : Recorded) : Type 0 where
  pub own : IsTrackOf (recorder_of it) it.track
  pub objects : it.objects ≡ objects_in (recorder_of it)
  pub stands : StandsAt (TrackRuns it.track) (TrackRests it.track) (TrackRests it.track) (objects_in (recorder_of it)) it.stage (track_standing (recorder_of it) it.track)

-- what a thread that is run again shares with the others
abbrev pub course_of : Repeated → Course
course_of it = arc_value it.course

-- its second run
abbrev pub rerun_of : Repeated → Rerun
rerun_of it = (course_of it).rerun

-- its follower is one of the second run's, and it stands where the stage says
pub record IsRepeated (it : Repeated) : Type 0 where
  pub own : IsFollowerOf (rerun_of it) it.thread.follower
  pub objects : it.objects ≡ length (script_in (rerun_of it).field).objects
  pub stands : StandsAt (Unit {0}) (Unit {0}) (HasMadeAll (rerun_of it) it.thread) (length (script_in (rerun_of it).field).objects) it.stage (second_standing it.thread)

-- what a call does to a recorded thread. It stays in its run
abbrev pub OnTrack : (Stage → Standing → Stage → Standing → Type 0) → Recorded → Recorded → Type 0
OnTrack Does it that = (that.heap ≡ it.heap) × Does it.stage (track_standing (recorder_of it) it.track) that.stage (track_standing (recorder_of that) that.track)

-- what a call does to a thread that is run again. It stays in its run, and what it has made is the beginning of what was
-- recorded of it
abbrev pub OnFollower : (Stage → Standing → Stage → Standing → Type 0) → Repeated → Repeated → Type 0
OnFollower Does it that =
    (that.course ≡ it.course) × Begins (made_by that.thread.follower) (recorded_of (rerun_of that) that.thread.follower.thread)
    × Does it.stage (second_standing it.thread) that.stage (second_standing that.thread)

-- a recorded thread that runs looks whether another one has asked, and answers it. It has made nothing
abbrev pub Glances : Result Bool Misuse → Recorded → Recorded → Type 0
Glances (Ok answered) it that =
    Goes Idle Idle it.stage (track_standing (recorder_of it) it.track) that.stage (track_standing (recorder_of that) that.track) × PassesSafePoint (seat_of it.track.worker) answered (seat_of that.track.worker)
Glances (Err said) it that = IsNotIdle it.stage said × (that ≡ it)
