-- Threads and streams of a run at its beginning.
use Rattle.std.proofs.Common.{◌≡◌, ◌∙◌, ℕ, zero, suc, ◌<◌, All, Option, Some, None, IfSome, List, [], ◌∷◌, ◌++◌, length, map, slice_index_or, refl, sym, ap, subst, arith}
use Rattle.std.proofs.lemmas.List.{get_or-map, length-map}
use Rattle.octet_follow.specs.Calls.{starts_in}
use Rattle.octet_heap.specs.Models.{heap_model}
use Rattle.octet_marks.specs.declared.piece.Head.{Head}
use Rattle.octet_stream.specs.declared.feeder.Feeder.{Feeder}
use Rattle.octet_stream.specs.declared.long_follower.LongFollower.{LongFollower}
use Rattle.octet_stream.specs.declared.long_rerun.LongRerun.{LongRerun}
use Rattle.octet_stream.specs.declared.long_run.LongRun.{LongRun}
use Rattle.octet_stream.specs.declared.receiver.Receiver.{Receiver}
use Rattle.octet_stream.specs.declared.track.Track.{Track}
use Rattle.octet_stream.specs.Accesses.{track_standing, TrackRuns, TrackRests, TrackHasEnded}
use Rattle.octet_stream.specs.Followers.{follower_standing, IsFedAt, EachAtStart, HasFollowed}
use Rattle.octet_stream.specs.Runs.{IsNew, EachNew}
use Rattle.octet_stream.specs.Tracks.{IsTrackOf, wanted_in}
use Rattle.octet_host.specs.declared.stage.Stage.{Stage}
use Rattle.octet_host.specs.Stages.{StandsAt}
use Rattle.octet_host_long.specs.declared.inlet.Inlet.{Inlet}
use Rattle.octet_host_long.specs.declared.outlet.Outlet.{Outlet}
use Rattle.octet_host_long.specs.declared.recorded.LongRecorded.{LongRecorded}
use Rattle.octet_host_long.specs.declared.repeated.LongRepeated.{LongRepeated}
use Rattle.octet_host_long.specs.Opened.{IsSeat, IsOutlet, IsOpened, IsSeatAgain, IsInlet, IsFollowing}
use Rattle.octet_tail.specs.declared.tail.Tail.{Tail}
use Rattle.octet_tail.specs.Tails.{IsTail}
use Rattle.octet_window.specs.Ordering.{accesses_in}
use Rattle.octet_model.specs.declared.event.Event.{Event}
use Rattle.octet_host_long.specs.Tailed.{made_by, HasRoom, IsTailedOf}
use Rattle.octet_host_long.specs.Threads.{run_of, rerun_of, IsLongRecorded, IsLongRepeated}

map_end : {X Y : Type 0} (f : X → Y) (xs : List X) (x : X) → map f (xs ++ x ∷ []) ≡ map f xs ++ f x ∷ []
map_end f [] x = refl
map_end f (z ∷ xs) x = ap (λ zs. f z ∷ zs) (map_end f xs x)

-- a list that is another one's image stays so with one more element of each
pub map_push : {X Y : Type 0} (f : X → Y) (xs : List X) (x : X) (ys : List Y) (y : Y) → map f xs ≡ ys → f x ≡ y → map f (xs ++ x ∷ []) ≡ ys ++ y ∷ []
map_push f xs x ys y before here = map_end f xs x ∙ (ap (λ zs. zs ++ f x ∷ []) before ∙ ap (λ z. ys ++ z ∷ []) here)

module _ (run : LongRun) (objects : ℕ) (sessions : List LongRecorded) (streams : List Outlet) (seats : All (IsSeat run objects) sessions) (outlets : All IsOutlet streams)
    (new : EachNew run (map (λ it. it.track) sessions) (map (λ outlet. outlet.writer.receiver) streams)) (same : length sessions ≡ length streams) where
  new_at : (thread : ℕ) (none : LongRecorded) (nobody : Outlet) → thread < length sessions
      → IsNew run thread (slice_index_or sessions thread none).track (slice_index_or streams thread nobody).writer.receiver
  new_at thread none nobody lt =
      subst (λ (t : Track). IsNew run thread t (slice_index_or streams thread nobody).writer.receiver) (get_or-map (λ (it : LongRecorded). it.track) sessions thread none none.track lt)
      (subst (λ (r : Receiver). IsNew run thread (slice_index_or (map (λ (it : LongRecorded). it.track) sessions) thread none.track) r)
      (get_or-map (λ (outlet : Outlet). outlet.writer.receiver) streams thread nobody nobody.writer.receiver (omega (arith, lt, same)))
      (new thread none.track nobody.writer.receiver (omega (arith, lt, length-map sessions (λ (it : LongRecorded). it.track)))))

  -- each thread is opened with its stream
  pub each_opened : (thread : ℕ) (none : LongRecorded) (nobody : Outlet) → thread < length sessions
      → IsOpened run objects thread (slice_index_or sessions thread none) (slice_index_or streams thread nobody)
  each_opened thread none nobody lt = let at = new_at thread none nobody lt in record {
    seat = seats thread none lt;
    new = at;
    written = outlets thread nobody (omega (arith, lt, same)) at.receiver_is.received_none;
  }

-- a new track in its seat stands where its stage says
pub recorded_of_new : (run : LongRun) (objects thread : ℕ) (it : LongRecorded) (receiver : Receiver) → IsSeat run objects it → (heap_model run.heap).objects ≡ objects → IsNew run thread it.track receiver → IsLongRecorded it
recorded_of_new run objects thread it receiver seat count new = record {
  own = subst (λ (r : LongRun). IsTrackOf r it.track) (sym seat.run_is) new.track_is.own;
  objects = seat.objects_are ∙ (sym count ∙ ap (λ (r : LongRun). (heap_model r.heap).objects) (sym seat.run_is));
  stands = subst (λ (s : Stage). StandsAt (TrackRuns it.track) (TrackRests it.track) (TrackHasEnded it.track) (heap_model (run_of it).heap).objects s (track_standing it.track)) (sym seat.stage)
      (new.track_is.rests, ap wanted_in new.track_is.stage);
}

module _ (run : LongRun) (objects : ℕ) (sessions : List LongRecorded) (streams : List Outlet) (seats : All (IsSeat run objects) sessions) (outlets : All IsOutlet streams)
    (new : EachNew run (map (λ it. it.track) sessions) (map (λ outlet. outlet.writer.receiver) streams)) (same : length sessions ≡ length streams) (count : (heap_model run.heap).objects ≡ objects) where
  with_stream : (k : ℕ) (none : LongRecorded) → k < length sessions → (streams_are : List Outlet) → streams_are ≡ streams → IsLongRecorded (slice_index_or sessions k none)
  with_stream k none lt [] is = absurd (omega (arith, lt, same, ap length is))
  with_stream k none lt (nobody ∷ others) is =
      let at = each_opened run objects sessions streams seats outlets new same k none nobody lt in
      recorded_of_new run objects k (slice_index_or sessions k none) (slice_index_or streams k nobody).writer.receiver at.seat count at.new

  -- all threads that are opened stand where their stages say
  pub all_recorded : All IsLongRecorded sessions
  all_recorded k none lt = with_stream k none lt streams refl

module _ (rerun : LongRerun) (head : Head) (last : ℕ) (sessions : List LongRepeated) (streams : List Inlet) (seats : All (IsSeatAgain rerun (length head.starts) last) sessions) (inlets : All (IsInlet head) streams)
    (start : EachAtStart rerun (map (λ it. it.thread.thread) sessions) (map (λ inlet. inlet.reader.feeder) streams)) (same : length sessions ≡ length streams) where
  fed_at : (thread : ℕ) (none : LongRepeated) (nobody : Inlet) → thread < length sessions
      → IsFedAt rerun thread (slice_index_or sessions thread none).thread.thread (slice_index_or streams thread nobody).reader.feeder
  fed_at thread none nobody lt =
      subst (λ (t : LongFollower). IsFedAt rerun thread t (slice_index_or streams thread nobody).reader.feeder) (get_or-map (λ (it : LongRepeated). it.thread.thread) sessions thread none none.thread.thread lt)
      (subst (λ (f : Feeder). IsFedAt rerun thread (slice_index_or (map (λ (it : LongRepeated). it.thread.thread) sessions) thread none.thread.thread) f)
      (get_or-map (λ (inlet : Inlet). inlet.reader.feeder) streams thread nobody nobody.reader.feeder (omega (arith, lt, same)))
      (start thread none.thread.thread nobody.reader.feeder (omega (arith, lt, length-map sessions (λ (it : LongRepeated). it.thread.thread)))))

  -- each thread that is made again has its stream
  pub each_following : (thread : ℕ) (none : LongRepeated) (nobody : Inlet) → thread < length sessions
      → IsFollowing rerun head last thread (slice_index_or sessions thread none) (slice_index_or streams thread nobody)
  each_following thread none nobody lt = let at = fed_at thread none nobody lt in let inlet = inlets thread nobody (omega (arith, lt, same)) in record {
    seat = seats thread none lt;
    fed = at;
    head_is = inlet.head_is;
    nothing = inlet.nothing at.feeder_is.sent_none;
  }

-- a thread that has made nothing has noted that
tail_of_none : (last : ℕ) (tail : Option Tail) (made : List Event) → made ≡ [] → HasRoom last tail → IfSome tail (IsTail made)
tail_of_none zero tail made is room = subst (λ (t : Option Tail). IfSome t (IsTail made)) (sym room) tt
tail_of_none (suc last) (Some tail) made is room = subst (λ (l : List Event). IsTail l tail) (sym is) room.0
tail_of_none (suc last) None made is room = absurd room

-- a new follower in its seat stands where its stage says
pub repeated_of_new : (rerun : LongRerun) (objects last thread : ℕ) (it : LongRepeated) (feeder : Feeder) → IsSeatAgain rerun objects last it → length (starts_in rerun.course) ≡ objects → IsFedAt rerun thread it.thread.thread feeder → IsLongRepeated it
repeated_of_new rerun objects last thread it feeder seat count fed = record {
  own = subst (λ (r : LongRerun). IsTailedOf r it.thread) (sym seat.run_is) (fed.start.own, tail_of_none last it.thread.tail (made_by it.thread.thread) (ap accesses_in fed.start.journal) seat.room);
  objects = seat.objects_are ∙ (sym count ∙ ap (λ (r : LongRerun). length (starts_in r.course)) (sym seat.run_is));
  stands = subst (λ (s : Stage). StandsAt (Unit {0}) (Unit {0}) (HasFollowed it.thread.thread) (length (starts_in (rerun_of it).course)) s (follower_standing it.thread.thread)) (sym seat.stage) (tt, fed.start.begun);
}

module _ (rerun : LongRerun) (head : Head) (last : ℕ) (sessions : List LongRepeated) (streams : List Inlet) (seats : All (IsSeatAgain rerun (length head.starts) last) sessions) (inlets : All (IsInlet head) streams)
    (start : EachAtStart rerun (map (λ it. it.thread.thread) sessions) (map (λ inlet. inlet.reader.feeder) streams)) (same : length sessions ≡ length streams) (count : length (starts_in rerun.course) ≡ length head.starts) where
  fed_by : (k : ℕ) (none : LongRepeated) → k < length sessions → (streams_are : List Inlet) → streams_are ≡ streams → IsLongRepeated (slice_index_or sessions k none)
  fed_by k none lt [] is = absurd (omega (arith, lt, same, ap length is))
  fed_by k none lt (nobody ∷ others) is =
      let at = each_following rerun head last sessions streams seats inlets start same k none nobody lt in
      repeated_of_new rerun (length head.starts) last k (slice_index_or sessions k none) (slice_index_or streams k nobody).reader.feeder at.seat count at.fed

  -- all threads that are made again stand where their stages say
  pub all_repeated : All IsLongRepeated sessions
  all_repeated k none lt = fed_by k none lt streams refl
