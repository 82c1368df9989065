-- A recorder and its tracks as a session.
use Rattle.std.specs.Prelude.{◌≡◌, ℕ, Bool, ◌-◌, Option, Some, None, Result, Ok, Err}
use Rattle.std.specs.declared.convert.Infallible.{Infallible}
use Rattle.octet_state.specs.declared.phase.Phase.TheVariants.{Idle}
use Rattle.octet_state.specs.declared.why.Why.{Why}
use Rattle.octet_heap.specs.declared.poll.Poll.{Poll}
use Rattle.octet_heap.specs.declared.poll.Poll.TheVariants as poll
use Rattle.octet_heap.specs.declared.updated.Updated.{Updated}
use Rattle.octet_heap.specs.declared.updated.Updated.TheVariants as updated
use Rattle.octet_heap.specs.Workers.{seat_of}
use Rattle.octet_rule.specs.Conditions.{IsResting}
use Rattle.octet_safe.specs.Replies.{PassesSafePoint}
use Rattle.octet_recorder.specs.declared.access.Access.{Access}
use Rattle.octet_recorder.specs.declared.recorder.Recorder.{Recorder}
use Rattle.octet_recorder.specs.declared.track.Track.{Track}
use Rattle.octet_recorder.specs.Polls.{NotesPoll}
use Rattle.octet_recorder.specs.Tracks.{lines_in, lines_noted, number_of, NotesNothing}
use Rattle.octet_session.specs.declared.not_made.NotMade.{NotMade}
use Rattle.octet_session.specs.declared.not_made.NotMade.TheVariants.{Waits, NoRoom}
use Rattle.octet_session.specs.Standing.{Standing}

-- a poll as the answer of a session
abbrev pub poll_answer : Poll → Result ℕ (NotMade Infallible)
poll_answer (poll.Ready value) = Ok value
poll_answer (poll.Pending why) = Err Waits

-- an update as the answer of a session: the value that it found
abbrev pub update_answer : Updated → Result ℕ (NotMade Infallible)
update_answer (updated.Made before) = Ok before
update_answer (updated.Pending why) = Err Waits

-- how a track stands
abbrev pub track_standing : Recorder → Track → Standing
track_standing recorder track = record {
  number = number_of track;
  journal = (seat_of track.worker).journal;
  begun = track.begun;
  region = track.region;
  left = Some (lines_in recorder - lines_noted track);
}

-- a track that has begun nothing runs
abbrev pub TrackRuns : Track → Type 0
TrackRuns track = track.begun ≡ None → (seat_of track.worker).thread.phase ≡ Idle

-- a track is off or blocked
abbrev pub TrackRests : Track → Type 0
TrackRests track = IsResting (seat_of track.worker).thread.phase

-- a poll of the access was pending
abbrev pub IsPending : Access → Track → Track → NotMade Infallible → Type 0
IsPending wanted before after Waits = (why : Why) × NotesPoll wanted before (poll.Pending why) after
IsPending wanted before after _ = ⊥

-- a poll made the access
abbrev pub IsMade : Access → Track → Track → Type 0
IsMade wanted before after = (value : ℕ) × NotesPoll wanted before (poll.Ready value) after

-- a thread answers those that have asked it
abbrev pub Answers : Track → Track → Type 0
Answers before after = NotesNothing before after × ((asked : Bool) × PassesSafePoint (seat_of before.worker) asked (seat_of after.worker))

-- it does so before it begins an access, and does nothing before it goes on with one
abbrev pub AnswersFirst : Option Access → Track → Track → Type 0
AnswersFirst (Some begun) before between = between ≡ before
AnswersFirst None before between = Answers before between

-- then a poll made the access
abbrev pub AnswersAndMakes : Access → Track → Track → Type 0
AnswersAndMakes wanted before after = (between : Track) × AnswersFirst before.begun before between × IsMade wanted between after

-- why a track's access is not made: a poll of it was pending, or there is no room, of which `HasCause` says when.
-- A track has no recording to leave, and its end is never refused
abbrev pub IsTrackReason : Option Access → Track → Track → NotMade Infallible → Type 0
IsTrackReason (Some wanted) before after Waits = (between : Track) × AnswersFirst before.begun before between × IsPending wanted between after Waits
IsTrackReason (Some wanted) before after NoRoom = Unit {0}
IsTrackReason _ before after why = ⊥
