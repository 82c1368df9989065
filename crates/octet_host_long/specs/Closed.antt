-- What a clause says of the values that a run of any length leaves.
use Rattle.std.specs.Prelude.{◌≡◌, ℕ, List, [], ◌∷◌, length}
use Rattle.octet_follow.specs.Calls.{starts_in, followers_in, ClosesTo}
use Rattle.octet_follow.specs.Repeats.{RepeatsRecording, KeepsToRecording}
use Rattle.octet_heap.specs.Models.{heap_model}
use Rattle.octet_stream.specs.Recordings.{IsRecorded}
use Rattle.octet_stream.specs.declared.long_follower.LongFollower.{LongFollower}
use Rattle.octet_stream.specs.declared.long_run.LongRun.{LongRun}
use Rattle.octet_stream.specs.declared.track.Track.{Track}
use Rattle.octet_stream.specs.Followers.{followers_of, EachOf}
use Rattle.octet_stream.specs.Runs.{journals_of, EachRests}
use Rattle.octet_tail.specs.declared.tail.Made.{Made}
use Rattle.octet_tail.specs.Tails.{HasMade}
use Rattle.octet_host_long.specs.declared.following.ClosedAgain.{ClosedAgain}
use Rattle.octet_host_long.specs.declared.repeated.LongCourse.{LongCourse}
use Rattle.octet_host_long.specs.Tailed.{made_by}

-- the tracks of this run are all still. With what they have made, these last values are a faithful recording
pub record IsClosedRecording (run : LongRun) (values : List ℕ) : Type 0 where
  pub tracks : List Track
  pub all : length tracks ≡ (heap_model run.heap).threads
  pub rest : EachRests run tracks
  pub recorded : IsRecorded (heap_model run.heap).starts (journals_of tracks) values

-- each thread has made so much, in order
abbrev pub HaveMade : List LongFollower → List Made → Type 0
HaveMade [] [] = Unit {0}
HaveMade (thread ∷ threads) (one ∷ made) = HasMade (made_by thread) one × HaveMade threads made
HaveMade _ _ = ⊥

-- the threads of this run that was made again have these last values, and have made so much. Where they were fed a recording, they
-- have repeated it, or its beginning
pub record IsClosedAgain (course : LongCourse) (again : ClosedAgain) : Type 0 where
  pub threads : List LongFollower
  pub all : length threads ≡ followers_in course.rerun.session.course
  pub each : EachOf course.rerun.session threads
  pub closes : ClosesTo (starts_in course.rerun.session.course) (followers_of threads) again.values
  pub keeps : KeepsToRecording (starts_in course.rerun.session.course) (followers_of threads)
  pub repeats : RepeatsRecording (starts_in course.rerun.session.course) (followers_of threads) again.values
  pub made : HaveMade threads again.made
  pub last : again.last ≡ course.last
