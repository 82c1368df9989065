-- What a clause says of what a run leaves and of the threads that were handed in.
use Rattle.std.specs.Prelude.{◌≡◌, ℕ, All, List, map}
use Rattle.octet_follow.specs.Calls.{starts_in, ClosesTo}
use Rattle.octet_heap.specs.Models.{heap_model}
use Rattle.octet_stream.specs.Recordings.{IsRecorded}
use Rattle.octet_stream.specs.Followers.{followers_of}
use Rattle.octet_stream.specs.Runs.{journals_of}
use Rattle.octet_host_long.specs.declared.following.ClosedAgain.{ClosedAgain}
use Rattle.octet_host_long.specs.declared.recorded.LongHeap.{LongHeap}
use Rattle.octet_host_long.specs.declared.recorded.LongRecorded.{LongRecorded}
use Rattle.octet_host_long.specs.declared.repeated.LongCourse.{LongCourse}
use Rattle.octet_host_long.specs.declared.repeated.LongRepeated.{LongRepeated}
use Rattle.octet_host_long.specs.Closed.{HaveMade}

-- the threads all share this heap. With what just they have made, thread by thread, in order, these last values are a faithful
-- recording
pub record RecordsThreads (threads : List LongRecorded) (values : List ℕ) : Type 0 where
  pub heap : LongHeap
  pub share : All (λ it. it.heap.value ≡ heap) threads
  pub recorded : IsRecorded (heap_model heap.run.heap).starts (journals_of (map (λ it. it.track) threads)) values

-- the threads all share this run that is made again. Just they have come, thread by thread, in order, to these last values, and have
-- made so much
pub record RepeatsThreads (threads : List LongRepeated) (again : ClosedAgain) : Type 0 where
  pub course : LongCourse
  pub share : All (λ it. it.course.value ≡ course) threads
  pub closes : ClosesTo (starts_in course.rerun.session.course) (followers_of (map (λ it. it.thread.thread) threads)) again.values
  pub made : HaveMade (map (λ it. it.thread.thread) threads) again.made
