-- What is kept of threads that were taken back.
use Rattle.std.proofs.Common.{◌≡◌, ◌∙◌, All, List, length, map, slice_index_or, Result, Ok, Err, sym, subst}
use Rattle.std.specs.Prelude.{Any, IfOk, IfErr}
use Rattle.once_cell.specs.declared.race.note.Note.{Note}
use Rattle.octet_model.specs.Orders.{IsFaithful}
use Rattle.octet_recorder.specs.declared.recording.Recording.{Recording}
use Rattle.octet_recorder.specs.declared.track.Track.{Track}
use Rattle.octet_recorder.specs.Recordings.{IsRecordingOf}
use Rattle.octet_recorder.specs.Tracks.{threads_in}
use Rattle.octet_host.specs.HandedBack.{AreAsOne}
use Rattle.octet_host.specs.Sealed.{IsSealed, AreFound, AreNoted, ShareOne}
use Rattle.octet_host.proofs.lemmas.Sealing.{found_theirs, all_share}
use Rattle.octet_host.proofs.lemmas.Taking.{any_more}
use Rattle.octet_host.specs.declared.fault.CloseFault.{CloseFault}
use Rattle.octet_host.specs.declared.fault.CloseFault.TheVariants.{OutOfMemory, OtherSessions, OutOfOrder, StillRunning, NotWhole, TooLong, TwoRuns}
use Rattle.octet_host_script.specs.declared.kept.Kept.{Kept}
use Rattle.octet_host_script.specs.declared.recorded.Heap.{Heap}
use Rattle.octet_host_script.specs.declared.recorded.Recorded.{Recorded}
use Rattle.octet_host_script.specs.HandedBack.{IsRecordedAs, IsRecordedAmong, RecordsTooMany, RefusesToKeep, RefusesRecorded}
use Rattle.octet_host_script.specs.Records.{IsRecordedBy, Keeps, KeepsRecording}
use Rattle.octet_host_script.specs.Theirs.{KeepsThreads}
use Rattle.octet_host_script.specs.Threads.{recorder_of}

module _ (threads : List Recorded) (heap : Heap) (shared : Any (λ it. it.heap.value ≡ heap) threads) (recording : Recording) (recorded : IsRecordedBy heap.recorder recording) where
  kept_by : (kept : Kept) → Keeps recording kept → Any (λ it. KeepsRecording (recorder_of it) kept) threads
  kept_by kept keeps =
      any_more (λ it. it.heap.value ≡ heap) (λ it. KeepsRecording (recorder_of it) kept)
      (λ it same. subst (λ (h : Heap). KeepsRecording h.recorder kept) (sym same) (record { recording = recording; recorded = recorded; keeps = keeps })) threads shared

  -- what is kept is the recording of one of the threads
  pub keeps_one : (result : Result Kept CloseFault) → IfOk result (Keeps recording) → IfOk result (λ kept. Any (λ it. KeepsRecording (recorder_of it) kept) threads)
  keeps_one (Ok kept) keeps = kept_by kept keeps
  keeps_one (Err fault) keeps = tt

  refuses_one : (fault : CloseFault) → RefusesToKeep recording fault → RefusesRecorded threads fault
  refuses_one OutOfMemory why = tt
  refuses_one TooLong why =
      any_more (λ it. it.heap.value ≡ heap) (λ it. RecordsTooMany (recorder_of it))
      (λ it same. subst (λ (h : Heap). RecordsTooMany h.recorder) (sym same) (record { recording = recording; recorded = recorded; too_many = why })) threads shared
  refuses_one OtherSessions why = absurd why
  refuses_one OutOfOrder why = absurd why
  refuses_one StillRunning why = absurd why
  refuses_one NotWhole why = absurd why
  refuses_one TwoRuns why = absurd why

  -- or it is too long
  pub refuses_to_keep : (result : Result Kept CloseFault) → IfErr result (RefusesToKeep recording) → IfErr result (RefusesRecorded threads)
  refuses_to_keep (Ok kept) why = tt
  refuses_to_keep (Err fault) why = refuses_one fault why

module _ (threads : List Recorded) (heap : Heap) (shared : Any (λ it. it.heap.value ≡ heap) threads) (one : AreAsOne IsRecordedAs threads) (notes : List (Note Track))
    (noted : AreNoted (λ number it note. IsSealed it.heap.value.seals.items number it.track note) threads notes) (tracks : List Track) (all : length tracks ≡ threads_in heap.recorder) (found : AreFound (λ it. it) heap.seals.items notes tracks) where
  -- the run has as many threads as were handed in
  many : Any (λ it. it.heap.value ≡ heap) threads → threads_in heap.recorder ≡ length threads
  many (k, it, lt, at, is) = subst (λ (h : Heap). threads_in h.recorder ≡ length threads) is (subst (IsRecordedAmong k (length threads)) at (one.each k it lt).1)

  -- where they all share one heap, the tracks are theirs
  tracks_are : All (λ it. it.heap.value ≡ heap) threads → tracks ≡ map (λ it. it.track) threads
  tracks_are each =
      found_theirs (λ it. it) heap.seals.items notes tracks (λ (it : Recorded). it.track) threads found (all ∙ many shared) noted.count
      (λ k nobody nothing lt. subst (λ (h : Heap). IsSealed h.seals.items k (slice_index_or threads k nobody).track (slice_index_or notes k nothing)) (each k nobody lt) (noted.each k nobody nothing lt))

  -- and so is the record
  pub keeps_theirs : (recording : Recording) → IsRecordingOf heap.recorder.opening tracks recording → IsFaithful recording.script recording.log.threads recording.outcome → (result : Result Kept CloseFault) → IfOk result (Keeps recording)
      → IfOk result (λ kept. ShareOne (λ it. it.heap.value) threads → KeepsThreads threads kept)
  keeps_theirs recording of faithful (Ok kept) keeps = λ share.
      let each = all_share (λ (it : Recorded). it.heap.value) threads heap shared share in record {
        heap = heap;
        share = each;
        recording = recording;
        of = subst (λ (ts : List Track). IsRecordingOf heap.recorder.opening ts recording) (tracks_are each) of;
        faithful = faithful;
        keeps = keeps;
      }
  keeps_theirs recording of faithful (Err fault) keeps = tt
