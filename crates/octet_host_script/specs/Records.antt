-- What a clause says of a record.
use Rattle.std.specs.Prelude.{◌≡◌, List, length, Some}
use Rattle.sha2.specs.Sha256.{sha256}
use Rattle.octet_model.specs.declared.outcome.Outcome.{Outcome}
use Rattle.octet_model.specs.Orders.{IsFaithful}
use Rattle.octet_log.specs.Spellings.{IsSpelling}
use Rattle.octet_parallel.specs.Calls.{script_in, log_in}
use Rattle.octet_recorder.specs.declared.recorder.Recorder.{Recorder}
use Rattle.octet_recorder.specs.declared.recording.Recording.{Recording}
use Rattle.octet_recorder.specs.declared.track.Track.{Track}
use Rattle.octet_recorder.specs.Recordings.{IsRecordingOf}
use Rattle.octet_recorder.specs.Tracks.{threads_in, EachRests}
use Rattle.octet_script.specs.Spelling.{Spells}
use Rattle.octet_host_script.specs.declared.kept.Kept.{Kept}
use Rattle.octet_host_script.specs.declared.repeated.Course.{Course}
use Rattle.octet_host_script.specs.Spelled.{IsSpelled}

-- the recording of a recorder: that of all its tracks, which are still
pub record IsRecordedBy (recorder : Recorder) (recording : Recording) : Type 0 where
  pub tracks : List Track
  pub all : length tracks ≡ threads_in recorder
  pub rest : EachRests recorder tracks
  pub of : IsRecordingOf recorder.opening tracks recording
  pub faithful : IsFaithful recording.script recording.log.threads recording.outcome

-- the bytes spell the script of a recording, and its log with the digest of the script's text. The values are the final ones
pub record Keeps (recording : Recording) (kept : Kept) : Type 0 where
  pub text : Spells kept.script.items recording.script
  pub bytes : IsSpelling kept.log.items (Some (sha256 kept.script.items)) recording.log.threads
  pub values : kept.values ≡ recording.outcome.heap

-- the recording of a recorder is kept, which is faithful
pub record KeepsRecording (recorder : Recorder) (kept : Kept) : Type 0 where
  pub recording : Recording
  pub recorded : IsRecordedBy recorder recording
  pub keeps : Keeps recording kept

-- the bytes are those by which a second run was made. Of whatever outcome they are a faithful recording, the values are its
-- final ones
pub record RepeatsRecording (course : Course) (kept : Kept) : Type 0 where
  pub script_is : kept.script.items ≡ course.script.items
  pub log_is : kept.log.items ≡ course.log.items
  pub spelled : ∥ IsSpelled kept.script.items kept.log.items (script_in course.rerun.field) (log_in course.rerun.field).threads ∥₁
  pub values : (outcome : Outcome) → IsFaithful (script_in course.rerun.field) (log_in course.rerun.field).threads outcome → kept.values ≡ outcome.heap
