-- What a track that is asked for an access does.
use Rattle.std.specs.Prelude.{◌≡◌, ◌≤◌, ◌⊎◌, ◌+◌, ℕ, Bool, true, false, Option, Some, None}
use Rattle.octet_state.specs.declared.act.Mode.TheVariants as mode
use Rattle.octet_state.specs.declared.limits.TheConstants.{MAX_ACCESSES_OF_THREAD}
use Rattle.octet_state.specs.declared.phase.Phase.TheVariants as phase
use Rattle.octet_state.specs.declared.why.Why.{Why}
use Rattle.octet_state.specs.declared.why.Why.TheVariants.{Held, Changed, Unanswered}
use Rattle.octet_rule.specs.Views.{SeatView}
use Rattle.octet_safe.specs.Replies.{PassesSafePoint}
use Rattle.octet_heap.specs.declared.marker.Marker.{Marker}
use Rattle.octet_heap.specs.declared.pending_access.PendingAccess.{PendingAccess}
use Rattle.octet_heap.specs.declared.poll.Poll.TheVariants as poll
use Rattle.octet_heap.specs.declared.updated.Updated.TheVariants as updated
use Rattle.octet_heap.specs.Builders.{accesses_of}
use Rattle.octet_heap.specs.Calls.{access_to, Polls}
use Rattle.octet_heap.specs.Markers.{marker_seat, IsIdle, Rests, HasRoom}
use Rattle.octet_heap.specs.Models.{marker_model}
use Rattle.octet_heap.specs.Updates.{PollsToChange}
use Rattle.octet_recorder.specs.declared.access.Access.{Access}
use Rattle.octet_recorder.specs.declared.access.Access.TheVariants.{Read, Write, Update}
use Rattle.octet_session.specs.declared.not_made.NotMade.{NotMade}
use Rattle.octet_session.specs.declared.not_made.NotMade.TheVariants.{Waits, NoRoom, Left}
use Rattle.octet_session.specs.Asking.{MayAsk}
use Rattle.octet_session.specs.Standing.{Standing}
use Rattle.octet_stream.specs.declared.long_run.Full.{Full}
use Rattle.octet_stream.specs.declared.track.Stage.{Stage}
use Rattle.octet_stream.specs.declared.track.Stage.TheVariants.{Begun}
use Rattle.octet_stream.specs.declared.track.TheConstants.{POLLS_OF_BACKOFF}
use Rattle.octet_stream.specs.declared.track.Track.{Track}
use Rattle.octet_stream.specs.Tracks.{journal_of, number_of, wanted_in, LacksRing}

-- how a track stands. It may make any number of lines
abbrev pub track_standing : Track → Standing
track_standing track = record {
  number = number_of track;
  journal = journal_of track;
  begun = wanted_in track.stage;
  region = track.region;
  left = None;
}

-- a track that was asked for nothing that waits runs. Its end is not handed on
abbrev pub TrackRuns : Track → Type 0
TrackRuns track = (wanted_in track.stage ≡ None → (marker_seat track.marker).thread.phase ≡ phase.Idle) × (track.ended ≡ false)

-- a track is off or blocked, and its end is not handed on
abbrev pub TrackRests : Track → Type 0
TrackRests track = Rests track.marker × (track.ended ≡ false)

-- a track has handed on all that it has made, and its end. It is blocked
abbrev pub TrackHasEnded : Track → Type 0
TrackHasEnded track = Rests track.marker × (track.ended ≡ true)

-- no access was begun
abbrev pub HasNotBegun : Stage → Type 0
HasNotBegun (Begun wanted) = ⊥
HasNotBegun _ = Unit {0}

-- the marker has begun this access, or is idle and has room for it
abbrev pub MayAccess : Bool → PendingAccess → Marker → Type 0
MayAccess true access marker = marker.pending ≡ Some access
MayAccess false access marker = IsIdle marker × HasRoom marker

-- the track's marker has begun this access, or is idle and has room for it
abbrev pub MayGoOn : Bool → Access → Track → Type 0
MayGoOn true wanted track = (track.stage ≡ Begun wanted) × (track.ended ≡ false)
MayGoOn false wanted track = IsIdle track.marker × HasRoom track.marker × (track.ended ≡ false)

-- the track may begin this access at once: its marker is idle and has room, and nothing else waits
abbrev pub IsReady : Access → Track → Type 0
IsReady wanted track = IsIdle track.marker × HasRoom track.marker × (track.ended ≡ false) × MayAsk wanted (wanted_in track.stage) × HasNotBegun track.stage

-- a poll of this access was pending
abbrev pub PollsPending : Access → SeatView → Why → SeatView → Type 0
PollsPending (Read object) v why w = Polls (access_to object mode.Read 0) v (poll.Pending why) w
PollsPending (Write object value) v why w = Polls (access_to object mode.Write value) v (poll.Pending why) w
PollsPending (Update object change) v why w = PollsToChange object change v (updated.Pending why) w

-- a poll made this access
abbrev pub PollsReady : Access → SeatView → SeatView → Type 0
PollsReady (Read object) v w = (found : ℕ) × Polls (access_to object mode.Read 0) v (poll.Ready found) w
PollsReady (Write object value) v w = (found : ℕ) × Polls (access_to object mode.Write value) v (poll.Ready found) w
PollsReady (Update object change) v w = (found : ℕ) × PollsToChange object change v (updated.Made found) w

-- how many polls a track lets pass before it tries again: none where it only waits for an answer
abbrev pub backoff_after : Why → ℕ
backoff_after (Held by word) = POLLS_OF_BACKOFF
backoff_after (Changed seen found) = POLLS_OF_BACKOFF
backoff_after (Unanswered by word) = 0

-- a poll of this access was pending, where the track stood as in this view
pub record IsPending (wanted : Access) (v : SeatView) (after : Track) : Type 0 where
  pub why : Why
  pub polls : PollsPending wanted v why (marker_seat after.marker)
  pub backs_off : after.backoff ≡ backoff_after why

-- why an access is not made that the marker was asked for: a poll of it was pending
abbrev pub IsMarkerReason : Access → Track → Track → NotMade Full → Type 0
IsMarkerReason wanted before after Waits = IsPending wanted (marker_seat before.marker) after
IsMarkerReason wanted before after _ = ⊥

-- a thread answers those that have asked it
abbrev pub Answers : SeatView → SeatView → Type 0
Answers v w = (asked : Bool) × PassesSafePoint v asked w

-- it does so before it begins an access, and does nothing before it goes on with one
abbrev pub AnswersFirst : Stage → SeatView → SeatView → Type 0
AnswersFirst (Begun wanted) v w = w ≡ v
AnswersFirst _ v w = Answers v w

-- then a poll made the access
pub record AnswersAndMakes (wanted : Access) (before after : Track) : Type 0 where
  pub between : SeatView
  pub answers : AnswersFirst before.stage (marker_seat before.marker) between
  pub ready : PollsReady wanted between (marker_seat after.marker)

-- a track waits for other threads of the heap
pub record WaitsOnHeap (wanted : Access) (before after : Track) : Type 0 where
  pub between : SeatView
  pub answers : AnswersFirst before.stage (marker_seat before.marker) between
  pub pending : IsPending wanted between after

-- why an access is not made that the track has just begun
abbrev pub IsFirstReason : Access → Track → Track → NotMade Full → Type 0
IsFirstReason wanted before after Waits = WaitsOnHeap wanted before after
IsFirstReason wanted before after _ = ⊥

-- a track lets a poll pass, but for an answer to those that have asked. Then it has fewer left to let pass
abbrev pub BacksOff : Track → Track → Type 0
BacksOff before after = (after.backoff + 1 ≡ before.backoff) × Answers (marker_seat before.marker) (marker_seat after.marker)

-- why a track's access is not made, or its end: a poll of it was pending, or the track lets this one pass after such a poll, or
-- its ring has no room for the block that is due, or it has made as many accesses as a thread may make. It always has room
-- for lines
abbrev pub IsTrackReason : Option Access → Track → Track → NotMade Full → Type 0
IsTrackReason (Some wanted) before after Waits = WaitsOnHeap wanted before after ⊎ BacksOff before after ⊎ LacksRing after
IsTrackReason None before after Waits = LacksRing after
IsTrackReason wanted before after NoRoom = ⊥
IsTrackReason (Some wanted) before after (Left halt) = MAX_ACCESSES_OF_THREAD ≤ accesses_of (marker_model after.marker)
IsTrackReason None before after (Left halt) = ⊥
