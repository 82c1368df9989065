-- What threads leave that were taken back.
use Rattle.std.proofs.Common.{List, map, Some, refl, inl, inr}
use Rattle.std.specs.Arc.{arc_value}
use Rattle.std.specs.Prelude.{Any}
use Rattle.octet_host.proofs.lemmas.Sealing.{all_of_any}
use Rattle.octet_host.specs.Sealed.{ShareOne}
use Rattle.octet_host.specs.declared.fault.CloseFault.{CloseFault}
use Rattle.octet_host.specs.HandedBack.{IsAtWork, AreAsOne}
use Rattle.octet_host_long.specs.declared.following.ClosedAgain.{ClosedAgain}
use Rattle.octet_host_long.specs.declared.recorded.LongRecorded.{LongRecorded}
use Rattle.octet_host_long.specs.declared.repeated.LongRepeated.{LongRepeated}
use Rattle.octet_host_long.specs.Closed.{IsClosedRecording, IsClosedAgain}
use Rattle.octet_host_long.specs.HandedBack as long
use Rattle.octet_host_long.specs.Theirs.{RecordsThreads, RepeatsThreads}
use Rattle.octet_host_long.specs.Threads as of
use Rattle.octet_host_script.specs.declared.kept.Kept.{Kept}
use Rattle.octet_host_script.specs.declared.recorded.Recorded.{Recorded}
use Rattle.octet_host_script.specs.declared.repeated.Course.{Course}
use Rattle.octet_host_script.specs.declared.repeated.Repeated.{Repeated}
use Rattle.octet_host_script.specs.HandedBack as script
use Rattle.octet_host_script.specs.Records.{KeepsRecording, RepeatsRecording}
use Rattle.octet_host_script.specs.Theirs.{KeepsThreads}
use Rattle.octet_host_script.specs.Threads.{recorder_of, course_of}
use Rattle.octet_c.specs.declared.held.Held.TheVariants as held
use Rattle.octet_c.specs.declared.kept.Values.{Values}
use Rattle.octet_c.specs.declared.kind.Kind.TheVariants as kinds
use Rattle.octet_c.specs.Closed.{RefusesToClose, IsRecordOf, Closes}
use Rattle.octet_c.specs.Records.{IsGood, AreGood}
use Rattle.octet_c.specs.Sessions.{IsLeftOf}
use Rattle.octet_c.proofs.Ended.{any_map, run_behind, refused_behind}

module _ (threads : List Recorded) where
  -- the record of recorded threads, behind handles
  pub closes_recorded : (kept : Kept) → AreAsOne script.IsRecordedAs threads → Any (λ it. KeepsRecording (recorder_of it) kept) threads → (ShareOne (λ it. arc_value it.heap) threads → KeepsThreads threads kept) → Closes (map (λ it. Some (held.Recorded it)) threads) (Some (held.Kept kept))
  closes_recorded kept one keeps theirs = record {
    one_run = run_behind (λ it. held.Recorded it) kinds.Recorded script.IsRecordedAs (λ it. refl) (λ n m it is. is) threads one;
    of = any_map (λ it. Some (held.Recorded it)) (λ s. IsRecordOf s (Some (held.Kept kept))) threads keeps;
    theirs = inl (threads, refl, theirs);
  }

  -- it is a good one
  pub good_recorded : (kept : Kept) → Any (λ it. KeepsRecording (recorder_of it) kept) threads → IsGood kept
  good_recorded kept (k, it, lt, at, keeps) = inl (recorder_of it, keeps)

  -- or why there is none
  pub refused_recorded : (fault : CloseFault) → script.RefusesRecorded threads fault → RefusesToClose (map (λ it. Some (held.Recorded it)) threads) fault
  refused_recorded =
      refused_behind (λ it. held.Recorded it) kinds.Recorded script.IsRecordedAs (λ it. refl) (λ n m it is. is)
      script.IsRecordedAt script.IsRecordedAmong (λ n m it is. is) (λ n m it is. is) (λ it. IsAtWork it.stage) (λ it. ⊥) (λ it. script.RecordsTooMany (recorder_of it)) (λ it w. w) (λ it w. w) (λ it w. absurd w) (λ it w. w) threads

module _ (threads : List Repeated) where
  -- likewise of threads that are run again
  pub closes_repeated : (kept : Kept) → AreAsOne script.IsRepeatedAs threads → Any (λ it. RepeatsRecording (course_of it) kept) threads → Closes (map (λ it. Some (held.Repeated it)) threads) (Some (held.Kept kept))
  closes_repeated kept one repeats = record {
    one_run = run_behind (λ it. held.Repeated it) kinds.Repeated script.IsRepeatedAs (λ it. refl) (λ n m it is. is) threads one;
    of = any_map (λ it. Some (held.Repeated it)) (λ s. IsRecordOf s (Some (held.Kept kept))) threads repeats;
    theirs = inr (
      threads,
      refl,
      λ share.
          all_of_any (λ it. course_of it) (λ (course : Course). RepeatsRecording course kept) threads repeats share,
    );
  }

  pub good_repeated : (kept : Kept) → Any (λ it. RepeatsRecording (course_of it) kept) threads → IsGood kept
  good_repeated kept (k, it, lt, at, repeats) = inr (course_of it, repeats)

  pub refused_repeated : (fault : CloseFault) → script.RefusesRepeated threads fault → RefusesToClose (map (λ it. Some (held.Repeated it)) threads) fault
  refused_repeated =
      refused_behind (λ it. held.Repeated it) kinds.Repeated script.IsRepeatedAs (λ it. refl) (λ n m it is. is)
      script.IsRepeatedAt script.IsRepeatedAmong (λ n m it is. is) (λ n m it is. is) (λ it. IsAtWork it.stage) script.LeavesSome (λ it. ⊥) (λ it w. w) (λ it w. w) (λ it w. w) (λ it w. absurd w) threads

module _ (threads : List LongRecorded) where
  -- likewise of recorded threads of a run of any length
  pub closes_long : (kept : Values) → AreAsOne long.IsRecordedAs threads → Any (λ it. IsClosedRecording (of.run_of it) kept.values) threads → (ShareOne (λ it. arc_value it.heap) threads → RecordsThreads threads kept.values) → Closes (map (λ it. Some (held.LongRecorded it)) threads) (Some (held.Values kept))
  closes_long kept one closed theirs = record {
    one_run = run_behind (λ it. held.LongRecorded it) kinds.LongRecorded long.IsRecordedAs (λ it. refl) (λ n m it is. is) threads one;
    of = any_map (λ it. Some (held.LongRecorded it)) (λ s. IsRecordOf s (Some (held.Values kept))) threads closed;
    theirs = (threads, refl, theirs);
  }

  pub good_long : (kept : Values) → Any (λ it. IsClosedRecording (of.run_of it) kept.values) threads → AreGood kept
  good_long kept (k, it, lt, at, closed) = (of.run_of it, closed)

  pub refused_long : (fault : CloseFault) → long.RefusesRecorded threads fault → RefusesToClose (map (λ it. Some (held.LongRecorded it)) threads) fault
  refused_long =
      refused_behind (λ it. held.LongRecorded it) kinds.LongRecorded long.IsRecordedAs (λ it. refl) (λ n m it is. is)
      long.IsRecordedAt long.IsRecordedAmong (λ n m it is. is) (λ n m it is. is) (λ it. IsAtWork it.stage) (λ it. ⊥) (λ it. ⊥) (λ it w. w) (λ it w. w) (λ it w. absurd w) (λ it w. absurd w) threads

module _ (threads : List LongRepeated) where
  -- likewise of threads of such a run that is made again
  pub closes_again : (kept : ClosedAgain) → AreAsOne long.IsRepeatedAs threads → Any (λ it. IsClosedAgain (of.course_of it) kept) threads → (ShareOne (λ it. arc_value it.course) threads → RepeatsThreads threads kept) → Closes (map (λ it. Some (held.LongRepeated it)) threads) (Some (held.Again kept))
  closes_again kept one closed theirs = record {
    one_run = run_behind (λ it. held.LongRepeated it) kinds.LongRepeated long.IsRepeatedAs (λ it. refl) (λ n m it is. is) threads one;
    of = any_map (λ it. Some (held.LongRepeated it)) (λ s. IsRecordOf s (Some (held.Again kept))) threads closed;
    theirs = (threads, refl, theirs);
  }

  pub good_again : (kept : ClosedAgain) → Any (λ it. IsClosedAgain (of.course_of it) kept) threads → IsLeftOf kept
  good_again kept (k, it, lt, at, closed) = (of.course_of it, kept, closed, refl)

  pub refused_again : (fault : CloseFault) → long.RefusesRepeated threads fault → RefusesToClose (map (λ it. Some (held.LongRepeated it)) threads) fault
  refused_again =
      refused_behind (λ it. held.LongRepeated it) kinds.LongRepeated long.IsRepeatedAs (λ it. refl) (λ n m it is. is)
      long.IsRepeatedAt long.IsRepeatedAmong (λ n m it is. is) (λ n m it is. is) (λ it. IsAtWork it.stage) (λ it. ⊥) (λ it. ⊥) (λ it w. w) (λ it w. w) (λ it w. absurd w) (λ it w. absurd w) threads
