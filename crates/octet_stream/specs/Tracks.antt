-- What a clause says of a long run and its tracks.
use Rattle.std.specs.Prelude.{◌≡◌, ℕ, ◌+◌, ◌<◌, ◌≤◌, List, drop, length, Option, Some, None}
use Rattle.rtrb.specs.Ring.{sent, known_free, producer_capacity}
use Rattle.octet_model.specs.declared.event.Event.{Event}
use Rattle.octet_model.specs.declared.limits.TheConstants.{MAX_MARKS_BEFORE_ACCESS}
use Rattle.octet_model.specs.Journals.{gapped_marks}
use Rattle.octet_digest.specs.Digests.{bits_of, digest_of}
use Rattle.octet_heap.specs.Markers.{marker_seat, base_of, room_of, IsMarkerOf, IsIdle}
use Rattle.octet_heap.specs.declared.marker.Marker.{Marker}
use Rattle.octet_recorder.specs.declared.access.Access.{Access}
use Rattle.octet_recorder.specs.Tracks.{pending_of, changing_of}
use Rattle.octet_stream.specs.declared.long_run.LongRun.{LongRun}
use Rattle.octet_stream.specs.declared.track.Stage.{Stage}
use Rattle.octet_stream.specs.declared.track.Stage.TheVariants.{Free, Asked, Begun}
use Rattle.octet_stream.specs.declared.track.Track.{Track}
use Rattle.octet_stream.specs.Items.{AreOf}

-- the events that a track has made
abbrev pub journal_of : Track → List Event
journal_of track = (marker_seat track.marker).journal

-- the number of a track's thread
abbrev pub number_of : Track → ℕ
number_of track = (marker_seat track.marker).number

-- the access that a track was asked for and that waits, if any
abbrev pub wanted_in : Stage → Option Access
wanted_in Free = None
wanted_in (Asked wanted) = Some wanted
wanted_in (Begun wanted) = Some wanted

-- the marker has begun what the stage says
abbrev pub StandsAt : Stage → Marker → Type 0
StandsAt Free marker = (marker.pending ≡ None) × (marker.changing ≡ None)
StandsAt (Asked wanted) marker = IsIdle marker
StandsAt (Begun wanted) marker = (marker.pending ≡ pending_of (Some wanted)) × (marker.changing ≡ changing_of (Some wanted))

-- a track of this run between two calls. Its digest is that of its journal, what it has sent are the items of its journal's
-- blocks, and its ring has room for a whole block
pub record IsTrackOf (run : LongRun) (track : Track) : Type 0 where
  pub own : IsMarkerOf run.heap track.marker
  pub stands : StandsAt track.stage track.marker
  pub digest : bits_of track.digest ≡ digest_of (journal_of track)
  pub items : AreOf (journal_of track) (base_of track.marker) track.ended (sent track.sender)
  pub buffer : MAX_MARKS_BEFORE_ACCESS ≤ room_of track.marker
  pub ring : room_of track.marker + 2 ≤ producer_capacity track.sender

-- the track has made nothing, and stands as before
pub record HandsOn (before after : Track) : Type 0 where
  pub seat : marker_seat after.marker ≡ marker_seat before.marker
  pub stage : after.stage ≡ before.stage
  pub region : after.region ≡ before.region
  pub pending : after.marker.pending ≡ before.marker.pending
  pub changing : after.marker.changing ≡ before.marker.changing

-- the marks that a track was not able to hand on yet
abbrev pub marks_left : Track → ℕ
marks_left track = length (gapped_marks 0 (drop (base_of track.marker) (journal_of track)))

-- the ring has no room for the track's block and an end, as far as the track knows
abbrev pub LacksRing : Track → Type 0
LacksRing track = known_free track.sender < marks_left track + 2

-- the track is as it was, and has sent the same. It may know of more room in its ring
pub record SameTrack (before after : Track) : Type 0 where
  pub marker : after.marker ≡ before.marker
  pub digest : after.digest ≡ before.digest
  pub stage : after.stage ≡ before.stage
  pub region : after.region ≡ before.region
  pub ended : after.ended ≡ before.ended
  pub sent_same : sent after.sender ≡ sent before.sender
  pub capacity : producer_capacity after.sender ≡ producer_capacity before.sender
