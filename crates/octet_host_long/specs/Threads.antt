-- What a clause says of the threads of a run of any length.
use Rattle.std.specs.Prelude.{◌≡◌, length, Bool, Result, Ok, Err}
use Rattle.std.specs.Arc.{arc_value}
use Rattle.octet_follow.specs.Calls.{starts_in}
use Rattle.octet_heap.specs.Markers.{marker_seat}
use Rattle.octet_heap.specs.Models.{heap_model}
use Rattle.octet_safe.specs.Replies.{PassesSafePoint}
use Rattle.octet_session.specs.Standing.{Standing}
use Rattle.octet_stream.specs.declared.long_run.LongRun.{LongRun}
use Rattle.octet_stream.specs.declared.long_rerun.LongRerun.{LongRerun}
use Rattle.octet_stream.specs.Accesses.{track_standing, TrackRuns, TrackRests, TrackHasEnded}
use Rattle.octet_stream.specs.Followers.{follower_standing, HasFollowed}
use Rattle.octet_stream.specs.Tracks.{IsTrackOf}
use Rattle.octet_host.specs.declared.misuse.Misuse.{Misuse}
use Rattle.octet_host.specs.declared.stage.Stage.{Stage}
use Rattle.octet_host.specs.declared.stage.Stage.TheVariants.{Idle}
use Rattle.octet_host.specs.Calls.{Goes, IsNotIdle}
use Rattle.octet_host.specs.Stages.{StandsAt}
use Rattle.octet_host_long.specs.declared.recorded.LongRecorded.{LongRecorded}
use Rattle.octet_host_long.specs.declared.repeated.LongCourse.{LongCourse}
use Rattle.octet_host_long.specs.declared.repeated.LongRepeated.{LongRepeated}
use Rattle.octet_host_long.specs.Tailed.{IsTailedOf}

-- the run of a thread that is recorded
abbrev pub run_of : LongRecorded → LongRun
run_of it = (arc_value it.heap).run

-- its track is one of the run's, and stands where the stage says
pub record IsLongRecorded (it : LongRecorded) : Type 0 where
  pub own : IsTrackOf (run_of it) it.track
  pub objects : it.objects ≡ (heap_model (run_of it).heap).objects
  pub stands : StandsAt (TrackRuns it.track) (TrackRests it.track) (TrackHasEnded it.track) (heap_model (run_of it).heap).objects it.stage (track_standing it.track)

-- what a thread that is made again shares with the others of its run
abbrev pub course_of : LongRepeated → LongCourse
course_of it = arc_value it.course

-- its run
abbrev pub rerun_of : LongRepeated → LongRerun
rerun_of it = (course_of it).rerun.session

-- its follower is one of the run's, and stands where the stage says
pub record IsLongRepeated (it : LongRepeated) : Type 0 where
  pub own : IsTailedOf (rerun_of it) it.thread
  pub objects : it.objects ≡ length (starts_in (rerun_of it).course)
  pub stands : StandsAt (Unit {0}) (Unit {0}) (HasFollowed it.thread.thread) (length (starts_in (rerun_of it).course)) it.stage (follower_standing it.thread.thread)

-- what a call does to a recorded thread. It stays in its run
abbrev pub OnTrack : (Stage → Standing → Stage → Standing → Type 0) → LongRecorded → LongRecorded → Type 0
OnTrack Does it that = (that.heap ≡ it.heap) × Does it.stage (track_standing it.track) that.stage (track_standing that.track)

-- what a call does to a thread that is made again. It stays in its run
abbrev pub OnFollower : (Stage → Standing → Stage → Standing → Type 0) → LongRepeated → LongRepeated → Type 0
OnFollower Does it that = (that.course ≡ it.course) × Does it.stage (follower_standing it.thread.thread) that.stage (follower_standing that.thread.thread)

-- a recorded thread that runs looks whether another one has asked, and answers it. It has made nothing
abbrev pub Glances : Result Bool Misuse → LongRecorded → LongRecorded → Type 0
Glances (Ok answered) it that =
    Goes Idle Idle it.stage (track_standing it.track) that.stage (track_standing that.track) × PassesSafePoint (marker_seat it.track.marker) answered (marker_seat that.track.marker)
Glances (Err said) it that = IsNotIdle it.stage said × (that ≡ it)
