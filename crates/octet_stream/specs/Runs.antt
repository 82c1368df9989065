-- A long run at its beginning and at its end.
use Rattle.std.specs.Prelude.{◌≡◌, ℕ, ◌<◌, List, [], map, length, false, slice_index_or}
use Rattle.rtrb.specs.Ring.{sent, received, known_items, IsPair}
use Rattle.octet_model.specs.Machine.{Journals}
use Rattle.octet_heap.specs.Markers.{Rests}
use Rattle.octet_stream.specs.declared.long_run.LongRun.{LongRun}
use Rattle.octet_stream.specs.declared.receiver.Receiver.{Receiver}
use Rattle.octet_stream.specs.declared.track.Stage.TheVariants.{Free}
use Rattle.octet_stream.specs.declared.track.Track.{Track}
use Rattle.octet_stream.specs.Tracks.{journal_of, number_of, IsTrackOf}
use Rattle.octet_stream.specs.Accesses.{TrackRests}

-- the track of this thread, which has made nothing and handed nothing on
pub record IsNewTrack (run : LongRun) (thread : ℕ) (track : Track) : Type 0 where
  pub own : IsTrackOf run track
  pub rests : TrackRests track
  pub number : number_of track ≡ thread
  pub stage : track.stage ≡ Free
  pub region : track.region ≡ false
  pub journal : journal_of track ≡ []
  pub sent_none : sent track.sender ≡ []

-- the other end of this track's ring, from which nothing was taken
pub record IsNewReceiver (thread : ℕ) (track : Track) (receiver : Receiver) : Type 0 where
  pub pair : IsPair track.sender receiver.end
  pub number : receiver.thread ≡ thread
  pub received_none : received receiver.end ≡ []
  pub known_none : known_items receiver.end ≡ []

-- the track of this thread with the other end of its ring
pub record IsNew (run : LongRun) (thread : ℕ) (track : Track) (receiver : Receiver) : Type 0 where
  pub track_is : IsNewTrack run thread track
  pub receiver_is : IsNewReceiver thread track receiver

-- each of these tracks is new, and has its receiver
abbrev pub EachNew : LongRun → List Track → List Receiver → Type 0
EachNew run tracks receivers = (thread : ℕ) (none : Track) (nobody : Receiver) → thread < length tracks → IsNew run thread (slice_index_or tracks thread none) (slice_index_or receivers thread nobody)

-- the track of this thread, which is off or blocked
pub record RestsAs (run : LongRun) (thread : ℕ) (track : Track) : Type 0 where
  pub own : IsTrackOf run track
  pub number : number_of track ≡ thread
  pub rests : Rests track.marker

-- each of these tracks rests, as that of the thread of its place
abbrev pub EachRests : LongRun → List Track → Type 0
EachRests run tracks = (thread : ℕ) (none : Track) → thread < length tracks → RestsAs run thread (slice_index_or tracks thread none)

-- the journals of tracks
abbrev pub journals_of : List Track → Journals
journals_of tracks = map journal_of tracks
