-- What a clause says of a run of any length at its beginning.
use Rattle.std.specs.Prelude.{◌≡◌, ℕ, ◌<◌, List, [], length, slice_index_or}
use Rattle.std.specs.Arc.{arc_value}
use Rattle.sha2.specs.Sha256.{sha256}
use Rattle.rtrb.specs.Ring.{sent, received}
use Rattle.octet_follow.specs.Calls.{starts_in, followers_in}
use Rattle.octet_heap.specs.Models.{heap_model}
use Rattle.octet_marks.specs.declared.piece.Head.{Head}
use Rattle.octet_blocks.specs.Writing.{HasWritten}
use Rattle.octet_blocks.specs.Reading.{HasFed}
use Rattle.octet_stream.specs.declared.long_run.LongRun.{LongRun}
use Rattle.octet_stream.specs.declared.long_rerun.LongRerun.{LongRerun}
use Rattle.octet_stream.specs.Followers.{IsFedAt}
use Rattle.octet_stream.specs.Runs.{IsNew}
use Rattle.octet_host.specs.declared.stage.Stage.TheVariants.{Resting}
use Rattle.octet_host.specs.Sealed.{ShareOne}
use Rattle.octet_host_long.specs.declared.inlet.Inlet.{Inlet}
use Rattle.octet_host_long.specs.declared.outlet.Outlet.{Outlet}
use Rattle.octet_host_long.specs.declared.recorded.LongRecorded.{LongRecorded}
use Rattle.octet_host_long.specs.declared.repeated.LongRepeated.{LongRepeated}
use Rattle.octet_host_long.specs.Streams.{head_of}
use Rattle.octet_host_long.specs.Tailed.{HasRoom}
use Rattle.octet_host_long.specs.Threads.{run_of, course_of, rerun_of}

-- a thread of this run, which has so many objects. It is off
pub record IsSeat (run : LongRun) (objects : ℕ) (it : LongRecorded) : Type 0 where
  pub run_is : run_of it ≡ run
  pub stage : it.stage ≡ Resting
  pub objects_are : it.objects ≡ objects

-- a stream from which nothing was taken, if nothing was received of its thread
abbrev pub IsOutlet : Outlet → Type 0
IsOutlet outlet = received outlet.writer.receiver.end ≡ [] → HasWritten outlet.writer [] []

-- the thread of this number of a run, which is off and has made nothing, and its stream, by which nothing was given
pub record IsOpened (run : LongRun) (objects thread : ℕ) (it : LongRecorded) (outlet : Outlet) : Type 0 where
  pub seat : IsSeat run objects it
  pub new : IsNew run thread it.track outlet.writer.receiver
  pub written : HasWritten outlet.writer [] []

-- the threads of a new run, in order, with their streams. Each stream is the other end of its thread's ring
pub record Opens (threads : ℕ) (starts : List ℕ) (sessions : List LongRecorded) (streams : List Outlet) : Type 0 where
  pub run : LongRun
  pub model : heap_model run.heap ≡ record { threads = threads; objects = length starts; starts = starts; fuel = 0 }
  pub sessions_count : length sessions ≡ threads
  pub streams_count : length streams ≡ threads
  pub each : (thread : ℕ) (none : LongRecorded) (nobody : Outlet) → thread < length sessions
      → IsOpened run (length starts) thread (slice_index_or sessions thread none) (slice_index_or streams thread nobody)
  pub share : ShareOne (λ it. arc_value it.heap) sessions

-- what the marks file of a run begins with: the digest of the declared bytes
abbrev pub head_with : ℕ → List ℕ → List ℕ → Head
head_with threads starts declared = record { threads = threads; starts = starts; declared = record { bytes = sha256 declared } }

-- a thread of this run, which has so many objects. It is off, and there is room for so many last accesses, of which none was noted
pub record IsSeatAgain (rerun : LongRerun) (objects last : ℕ) (it : LongRepeated) : Type 0 where
  pub run_is : rerun_of it ≡ rerun
  pub stage : it.stage ≡ Resting
  pub objects_are : it.objects ≡ objects
  pub last_is : (course_of it).last ≡ last
  pub room : HasRoom last it.thread.tail

-- a stream for files with this head. It was fed nothing, if nothing was given to its thread
pub record IsInlet (head : Head) (inlet : Inlet) : Type 0 where
  pub head_is : head_of inlet ≡ head
  pub nothing : sent inlet.reader.feeder.end ≡ [] → HasFed head inlet.reader [] []

-- the thread of this number of a run, which is off and has made nothing, and its stream for files with this head
pub record IsFollowing (rerun : LongRerun) (head : Head) (last thread : ℕ) (it : LongRepeated) (inlet : Inlet) : Type 0 where
  pub seat : IsSeatAgain rerun (length head.starts) last it
  pub fed : IsFedAt rerun thread it.thread.thread inlet.reader.feeder
  pub head_is : head_of inlet ≡ head
  pub nothing : HasFed head inlet.reader [] []

-- the threads of a run that is made again, in order, with their streams. Each stream is the other end of its thread's ring, and each
-- thread notes so many of its last accesses
pub record Follows (threads : ℕ) (starts declared : List ℕ) (last : ℕ) (sessions : List LongRepeated) (streams : List Inlet) : Type 0 where
  pub rerun : LongRerun
  pub starts_are : starts_in rerun.course ≡ starts
  pub followers : followers_in rerun.course ≡ threads
  pub sessions_count : length sessions ≡ threads
  pub streams_count : length streams ≡ threads
  pub each : (thread : ℕ) (none : LongRepeated) (nobody : Inlet) → thread < length sessions
      → IsFollowing rerun (head_with threads starts declared) last thread (slice_index_or sessions thread none) (slice_index_or streams thread nobody)
  pub share : ShareOne course_of sessions
