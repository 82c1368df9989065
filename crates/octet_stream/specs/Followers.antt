-- What a clause says of a long run that is made again, and of its threads.
use Rattle.std.specs.Prelude.{◌≡◌, ◌≢◌, ◌⊎◌, ℕ, ◌<◌, ◌≤◌, List, [], length, map, Option, Some, None, IfSome, false, vec_capacity, slice_index_or}
use Rattle.rtrb.specs.Ring.{sent, received, IsPair}
use Rattle.octet_model.specs.Journals.{access_count}
use Rattle.octet_digest.specs.Digests.{digest_of}
use Rattle.octet_follow.specs.declared.access.Access as again
use Rattle.octet_follow.specs.declared.access.Access.TheVariants as again_to
use Rattle.octet_follow.specs.declared.follower.Follower.{Follower}
use Rattle.octet_follow.specs.declared.halt.Halt as stop
use Rattle.octet_follow.specs.declared.halt.Halt.TheVariants as stopped_by
use Rattle.octet_follow.specs.Calls.{view_of, journal_in, room_of, IsFollowerOf, IsComplete, Halts, IsNotEnded}
use Rattle.octet_recorder.specs.declared.access.Access.{Access}
use Rattle.octet_recorder.specs.declared.access.Access.TheVariants.{Read, Write, Update}
use Rattle.octet_session.specs.declared.not_made.NotMade.{NotMade}
use Rattle.octet_session.specs.declared.not_made.NotMade.TheVariants.{Waits, NoRoom, Left}
use Rattle.octet_session.specs.Standing.{Standing}
use Rattle.octet_stream.specs.declared.feeder.Feeder.{Feeder}
use Rattle.octet_stream.specs.declared.long_follower.LongFollower.{LongFollower}
use Rattle.octet_stream.specs.declared.long_rerun.Divergence.{Divergence}
use Rattle.octet_stream.specs.declared.long_rerun.Halt.{Halt}
use Rattle.octet_stream.specs.declared.long_rerun.Halt.TheVariants.{Diverges, Stopped, RecordingEnds, Amiss}
use Rattle.octet_stream.specs.declared.long_rerun.LongRerun.{LongRerun}
use Rattle.octet_stream.specs.Fed.{IsFed}
use Rattle.octet_stream.specs.Items.{digest_in}

-- an access in the words of a follower
abbrev pub followed : Access → again.Access
followed (Read object) = again_to.Read object
followed (Write object value) = again_to.Write object value
followed (Update object change) = again_to.Update object change

-- a thread of this run between two calls. Its follower was told what was received, but for the marks of a block that has not
-- come whole, and the digest that it has to have is that of the last block
pub record IsLongFollowerOf (rerun : LongRerun) (thread : LongFollower) : Type 0 where
  pub own : IsFollowerOf rerun.course thread.follower
  pub fed : IsFed (received thread.feed) thread.follower thread.marks.items
  pub room : vec_capacity thread.marks ≤ room_of thread.follower
  pub expects : IfSome thread.expected (λ digest. digest_in None (received thread.feed) ≡ Some digest)

-- how a thread stands. It may make any number of lines
abbrev pub follower_standing : LongFollower → Standing
follower_standing thread = record {
  number = (view_of thread.follower).number;
  journal = journal_in thread.follower;
  begun = thread.begun;
  region = thread.region;
  left = None;
}

-- a thread has made nothing, and stands as before
pub record StaysAs (before after : LongFollower) : Type 0 where
  pub number : (view_of after.follower).number ≡ (view_of before.follower).number
  pub journal : journal_in after.follower ≡ journal_in before.follower
  pub begun : after.begun ≡ before.begun
  pub region : after.region ≡ before.region

-- a thread has made all that was recorded of it, and its recording ends there
abbrev pub HasFollowed : LongFollower → Type 0
HasFollowed thread = IsComplete thread.follower

-- why a follower halts that is asked for this access, or for its end
abbrev pub HaltsAsked : LongRerun → Option Access → stop.Halt → Follower → Type 0
HaltsAsked rerun (Some wanted) halt follower = Halts rerun.course (followed wanted) halt follower
HaltsAsked rerun None halt follower = IsNotEnded halt follower

-- the thread's follower has halted, with what it has made
pub record HasHalted (rerun : LongRerun) (wanted : Option Access) (halt : stop.Halt) (thread : LongFollower) : Type 0 where
  pub follower : Follower
  pub journal : journal_in follower ≡ journal_in thread.follower
  pub halts : HaltsAsked rerun wanted halt follower

-- where the thread has halted for want of marks, its digest differs. Else its recording is at an end, or the thread is
abbrev pub HasLeft : stop.Halt → LongFollower → Type 0
HasLeft stopped_by.NeedsMarks thread = (expected : ℕ) × (digest_in None (received thread.feed) ≡ Some expected) × (digest_of (journal_in thread.follower) ≢ expected)
HasLeft stopped_by.OverEnd thread = Unit {0}
HasLeft (stopped_by.EndsEarly left) thread = Unit {0}
HasLeft _ thread = ⊥

-- a divergence tells the thread, and how many accesses it has made
pub record IsDivergence (halt : stop.Halt) (thread : LongFollower) (divergence : Divergence) : Type 0 where
  pub number : divergence.thread ≡ thread.follower.number
  pub made : divergence.to ≡ access_count (journal_in thread.follower)
  pub from : divergence.from ≡ thread.from
  pub left : HasLeft halt thread

-- the follower waits for another one, or for draws
abbrev pub WaitsForOthers : stop.Halt → Type 0
WaitsForOthers (stopped_by.Waits whom needs found) = Unit {0}
WaitsForOthers (stopped_by.WaitsForDraws needs found) = Unit {0}
WaitsForOthers _ = ⊥

-- the answer that this halt gives. A thread waits for others, or for marks, or for its end
abbrev pub Answers : stop.Halt → LongFollower → NotMade Halt → Type 0
Answers halt thread Waits = WaitsForOthers halt ⊎ (halt ≡ stopped_by.NeedsMarks)
Answers halt thread NoRoom = ⊥
Answers halt thread (Left (Diverges divergence)) = IsDivergence halt thread divergence
Answers halt thread (Left (Stopped divergence)) = WaitsForOthers halt
Answers halt thread (Left RecordingEnds) = WaitsForOthers halt ⊎ (halt ≡ stopped_by.RecordingEnds)
Answers halt thread (Left Amiss) = (halt ≡ stopped_by.Amiss) ⊎ (halt ≡ stopped_by.NoObject) ⊎ ((halt ≡ stopped_by.NeedsMarks) × (thread.marks.items ≢ []))

-- why a thread has not made this access, or has not ended: its follower has halted, which gives this answer
pub record IsFollowerReason (rerun : LongRerun) (wanted : Option Access) (thread : LongFollower) (why : NotMade Halt) : Type 0 where
  pub halt : stop.Halt
  pub halted : HasHalted rerun wanted halt thread
  pub gives : Answers halt thread why

-- what a thread may be told that waits for others
abbrev pub AnswersWait : NotMade Halt → Type 0
AnswersWait Waits = Unit {0}
AnswersWait (Left (Stopped divergence)) = Unit {0}
AnswersWait (Left RecordingEnds) = Unit {0}
AnswersWait _ = ⊥

-- the thread of this number, which has made nothing and received nothing
pub record IsAtStart (rerun : LongRerun) (number : ℕ) (thread : LongFollower) : Type 0 where
  pub own : IsLongFollowerOf rerun thread
  pub numbered : (view_of thread.follower).number ≡ number
  pub journal : journal_in thread.follower ≡ []
  pub begun : thread.begun ≡ None
  pub region : thread.region ≡ false
  pub received_none : received thread.feed ≡ []

-- the end by which this thread is fed, which has given nothing
pub record IsFeederOf (number : ℕ) (thread : LongFollower) (feeder : Feeder) : Type 0 where
  pub pair : IsPair feeder.end thread.feed
  pub number_is : feeder.thread ≡ number
  pub sent_none : sent feeder.end ≡ []

-- the thread of this number at its start, with the end by which it is fed
pub record IsFedAt (rerun : LongRerun) (number : ℕ) (thread : LongFollower) (feeder : Feeder) : Type 0 where
  pub start : IsAtStart rerun number thread
  pub feeder_is : IsFeederOf number thread feeder

-- each of these threads is at its start, with its feeder
abbrev pub EachAtStart : LongRerun → List LongFollower → List Feeder → Type 0
EachAtStart rerun threads feeders = (number : ℕ) (none : LongFollower) (nobody : Feeder) → number < length threads → IsFedAt rerun number (slice_index_or threads number none) (slice_index_or feeders number nobody)

-- each of these threads is one of the run's, that of its number
abbrev pub EachOf : LongRerun → List LongFollower → Type 0
EachOf rerun threads = (number : ℕ) (none : LongFollower) → number < length threads
    → IsLongFollowerOf rerun (slice_index_or threads number none) × ((view_of (slice_index_or threads number none).follower).number ≡ number)

-- the followers of threads
abbrev pub followers_of : List LongFollower → List Follower
followers_of threads = map (λ thread. thread.follower) threads
