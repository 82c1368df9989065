-- A poll that waits, with the safe point after it.
use Rattle.std.proofs.Common.{◌≡◌, ◌∙◌, ℕ, Bool, true, false, List, sym, ap, subst}
use Rattle.octet_model.specs.declared.event.Event.{Event}
use Rattle.octet_state.specs.declared.phase.Phase.{Phase}
use Rattle.octet_state.specs.declared.phase.Due.TheVariants.{Nothing}
use Rattle.octet_state.specs.declared.why.Why.{Why}
use Rattle.octet_state.specs.Steps.{ToAnswer}
use Rattle.octet_rule.specs.Seats.{view, IsSeatOf}
use Rattle.octet_rule.specs.Views.{SeatView, stepped_by}
use Rattle.octet_rule.specs.declared.words.Words.{Words}
use Rattle.octet_safe.specs.Replies.{PassesSafePoint}
use Rattle.octet_heap.specs.declared.pending_access.PendingAccess.{PendingAccess}
use Rattle.octet_heap.specs.declared.poll.Poll.TheVariants.{Pending}
use Rattle.octet_heap.specs.declared.recorder.Recorder.{Recorder}
use Rattle.octet_heap.specs.declared.running_log.RunningLog.{RunningLog}
use Rattle.octet_heap.specs.Logs.{Takes}
use Rattle.octet_heap.specs.Recorders.{KeepsSeat}
use Rattle.octet_heap.specs.Waiting.{HasBegun, Leaves, EndsPoll}

same_threads : (u w : SeatView) (answered : Bool) → PassesSafePoint u answered w → w.threads ≡ u.threads
same_threads u w false point = ap (λ (x : SeatView). x.threads) (point.answers ∙ point.glances.moves)
same_threads u w true point = ap (λ (x : SeatView). x.threads) (point.answers.1.moves ∙ ap (stepped_by ToAnswer point.answers.0) point.glances.moves)

-- the access stays begun
pub ends_waiting : (access : PendingAccess) (u w : SeatView) (why : Why) (answered : Bool) → Leaves access (Pending why) u → PassesSafePoint u answered w → w.thread.due ≡ Nothing → w.thread.phase ≡ u.thread.phase
    → EndsPoll access (Pending why) w
ends_waiting access u w why answered leaves point due phase = (
  due,
  subst (λ (n : ℕ). HasBegun n access w.thread.phase) (sym (same_threads u w answered point)) (subst (λ (p : Phase). HasBegun u.threads access p) (sym phase) leaves.1),
)

-- and the log is as it was
pub keeps_on : (words : Words) (n : ℕ) (before between after : Recorder) → KeepsSeat words n before between → IsSeatOf words after.seat → after.log ≡ between.log → after.base ≡ between.base
    → (view after.seat).journal ≡ (view between.seat).journal → KeepsSeat words n before after
keeps_on words n before between after keeps own log base journal = record {
  own = own;
  same_base = base ∙ keeps.same_base;
  counts = ap (λ (l : RunningLog). l.accesses) log ∙ keeps.counts;
  takes = subst (λ (l : RunningLog). Takes before.log (view before.seat).journal l (view after.seat).journal) (sym log)
      (subst (λ (j : List Event). Takes before.log (view before.seat).journal between.log j) (sym journal) keeps.takes);
}
