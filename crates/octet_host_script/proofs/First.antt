-- Threads that have made nothing.
use Rattle.std.proofs.Common.{ℕ, length, Some, inl, ap, arith}
use Rattle.octet_recorder.specs.declared.recorder.Recorder.{Recorder}
use Rattle.octet_recorder.specs.declared.track.Track.{Track}
use Rattle.octet_recorder.specs.Tracks.{lines_in, IsNew}
use Rattle.octet_state.specs.State.{Thread}
use Rattle.octet_session.specs.Recording.{track_standing, TrackRests}
use Rattle.octet_host_script.specs.Opened.{IsFirst}

-- a new track has made nothing
pub first_of_new : (recorder : Recorder) (thread : ℕ) (track : Track) → IsNew recorder thread track → IsFirst thread (lines_in recorder) (track_standing recorder track)
first_of_new recorder thread track new = record {
  number = new.worker.1;
  journal = new.worker.3;
  begun = new.begun;
  region = new.region;
  left = ap Some (omega (arith, ap length new.commands));
}

-- and is off
pub rests_of_new : (recorder : Recorder) (thread : ℕ) (track : Track) → IsNew recorder thread track → TrackRests track
rests_of_new recorder thread track new = inl (ap (λ (t : Thread). t.phase) new.worker.2)
