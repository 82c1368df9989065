-- What a run leaves is that of the threads that were handed in.
use Rattle.std.proofs.Common.{◌≡◌, ◌∙◌, All, List, length, map, slice_index_or, subst}
use Rattle.std.specs.Prelude.{Any}
use Rattle.once_cell.specs.declared.race.note.Note.{Note}
use Rattle.octet_follow.specs.Calls.{followers_in}
use Rattle.octet_heap.specs.Models.{heap_model}
use Rattle.octet_stream.specs.declared.long_follower.LongFollower.{LongFollower}
use Rattle.octet_stream.specs.declared.track.Track.{Track}
use Rattle.octet_tail.specs.declared.tailed.TailedThread.{TailedThread}
use Rattle.octet_host.specs.HandedBack.{AreAsOne}
use Rattle.octet_host.specs.Sealed.{IsSealed, AreFound, AreNoted}
use Rattle.octet_host.proofs.lemmas.Sealing.{found_theirs}
use Rattle.octet_host_long.specs.declared.recorded.LongHeap.{LongHeap}
use Rattle.octet_host_long.specs.declared.recorded.LongRecorded.{LongRecorded}
use Rattle.octet_host_long.specs.declared.repeated.LongCourse.{LongCourse}
use Rattle.octet_host_long.specs.declared.repeated.LongRepeated.{LongRepeated}
use Rattle.octet_host_long.specs.HandedBack.{IsRecordedAs, IsRecordedAmong, IsRepeatedAs, IsRepeatedAmong}

module _ (threads : List LongRecorded) (heap : LongHeap) (shared : Any (λ it. it.heap.value ≡ heap) threads) (one : AreAsOne IsRecordedAs threads) (notes : List (Note Track))
    (noted : AreNoted (λ number it note. IsSealed it.heap.value.seals.items number it.track note) threads notes) (tracks : List Track) (all : length tracks ≡ (heap_model heap.run.heap).threads)
    (found : AreFound (λ it. it) heap.seals.items notes tracks) where
  many : Any (λ it. it.heap.value ≡ heap) threads → (heap_model heap.run.heap).threads ≡ length threads
  many (k, it, lt, at, is) = subst (λ (h : LongHeap). (heap_model h.run.heap).threads ≡ length threads) is (subst (IsRecordedAmong k (length threads)) at (one.each k it lt).1)

  -- where they all share one heap, the tracks are theirs
  pub tracks_are : All (λ it. it.heap.value ≡ heap) threads → tracks ≡ map (λ it. it.track) threads
  tracks_are each =
      found_theirs (λ it. it) heap.seals.items notes tracks (λ (it : LongRecorded). it.track) threads found (all ∙ many shared) noted.count
      (λ k nobody nothing lt. subst (λ (h : LongHeap). IsSealed h.seals.items k (slice_index_or threads k nobody).track (slice_index_or notes k nothing)) (each k nobody lt) (noted.each k nobody nothing lt))

module _ (threads : List LongRepeated) (course : LongCourse) (shared : Any (λ it. it.course.value ≡ course) threads) (one : AreAsOne IsRepeatedAs threads) (notes : List (Note (TailedThread LongFollower)))
    (noted : AreNoted (λ number it note. IsSealed it.course.value.seals.items number it.thread note) threads notes) (followers : List LongFollower) (all : length followers ≡ followers_in course.rerun.session.course)
    (found : AreFound (λ it. it.thread) course.seals.items notes followers) where
  many_again : Any (λ it. it.course.value ≡ course) threads → followers_in course.rerun.session.course ≡ length threads
  many_again (k, it, lt, at, is) = subst (λ (h : LongCourse). followers_in h.rerun.session.course ≡ length threads) is (subst (IsRepeatedAmong k (length threads)) at (one.each k it lt).1)

  -- likewise the followers
  pub followers_are : All (λ it. it.course.value ≡ course) threads → followers ≡ map (λ it. it.thread.thread) threads
  followers_are each =
      found_theirs (λ (it : TailedThread LongFollower). it.thread) course.seals.items notes followers (λ (it : LongRepeated). it.thread) threads found (all ∙ many_again shared) noted.count
      (λ k nobody nothing lt. subst (λ (h : LongCourse). IsSealed h.seals.items k (slice_index_or threads k nobody).thread (slice_index_or notes k nothing)) (each k nobody lt) (noted.each k nobody nothing lt))
