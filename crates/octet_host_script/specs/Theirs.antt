-- What a clause says of a record and of the threads that were handed in.
use Rattle.std.specs.Prelude.{◌≡◌, All, List, map}
use Rattle.octet_model.specs.Orders.{IsFaithful}
use Rattle.octet_recorder.specs.declared.recording.Recording.{Recording}
use Rattle.octet_recorder.specs.Recordings.{IsRecordingOf}
use Rattle.octet_host_script.specs.declared.kept.Kept.{Kept}
use Rattle.octet_host_script.specs.declared.recorded.Heap.{Heap}
use Rattle.octet_host_script.specs.declared.recorded.Recorded.{Recorded}
use Rattle.octet_host_script.specs.Records.{Keeps}

-- the threads all share this heap, and what is kept is the recording of just their tracks, thread by thread, in order
pub record KeepsThreads (threads : List Recorded) (kept : Kept) : Type 0 where
  pub heap : Heap
  pub share : All (λ it. it.heap.value ≡ heap) threads
  pub recording : Recording
  pub of : IsRecordingOf heap.recorder.opening (map (λ it. it.track) threads) recording
  pub faithful : IsFaithful recording.script recording.log.threads recording.outcome
  pub keeps : Keeps recording kept
