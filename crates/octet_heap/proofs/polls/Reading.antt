-- The values that a poll reads.
use Rattle.std.proofs.Common.{◌≡◌, ◌∙◌, ℕ, suc, ◌<◌, ◌≤◌, Bool, true, false, List, [], ◌∷◌, ◌++◌, length, map, sym, refl, ap, arith, append-nil}
use Rattle.std.specs.Prelude.{vec_capacity}
use Rattle.octet_model.specs.declared.event.Mark.{Mark}
use Rattle.octet_model.specs.declared.event.Event.{Event}
use Rattle.octet_model.specs.declared.event.Event.TheVariants.{Read, Marked}
use Rattle.octet_model.specs.Journals.{access_count}
use Rattle.octet_model.specs.Orders.{values_read}
use Rattle.octet_model.proofs.lemmas.Splits.{values_split}
use Rattle.octet_state.specs.declared.act.Mode.{Mode}
use Rattle.octet_state.specs.declared.act.Mode.TheVariants as mode
use Rattle.octet_state.specs.declared.why.Why.{Why}
use Rattle.octet_rule.specs.Seats.{view}
use Rattle.octet_rule.specs.Views.{SeatView}
use Rattle.octet_rule.specs.declared.words.Words.{Words}
use Rattle.octet_heap.specs.declared.pending_access.PendingAccess.{PendingAccess}
use Rattle.octet_heap.specs.declared.poll.Poll.TheVariants.{Ready, Pending}
use Rattle.octet_heap.specs.declared.recorder.Recorder.{Recorder}
use Rattle.octet_heap.specs.declared.worker.Worker.{Worker}
use Rattle.octet_heap.specs.Growth.{access_event, read_by, AddsAccess}
use Rattle.octet_heap.specs.Logs.{HasRoomForAll}
use Rattle.octet_heap.specs.OwnersPath.{value_by}
use Rattle.octet_heap.specs.Recorders.{CanRecord, KeepsSeat}
use Rattle.octet_heap.specs.SlowPath.{slow_by}
use Rattle.octet_heap.specs.Workers.{seat_of}
use Rattle.octet_heap.proofs.log.Entries.{room_left, can_still}

-- marks read nothing
of_marks : (marks : List Mark) (later : List Event) → values_read (map (λ mark. Marked mark) marks ++ later) ≡ values_read later
of_marks [] later = refl
of_marks (mark ∷ marks) later = of_marks marks later

of_access : (mode : Mode) (object value told : ℕ) → values_read (access_event mode object value told ∷ []) ≡ read_by mode (value_by mode value told)
of_access mode.Read object value told = refl
of_access mode.Write object value told = refl
of_access mode.Update object value told = refl

pub reads_made : (access : PendingAccess) (v w : SeatView) (value : ℕ) → AddsAccess access v (Ready value) w → values_read w.journal ≡ values_read v.journal ++ read_by access.mode value
reads_made access v w value adds =
    let later = access_event access.mode access.object access.value adds.told ∷ [] in
    ap values_read adds.grown ∙ (values_split v.journal (map (λ mark. Marked mark) adds.marks ++ later)
    ∙ ap (λ (l : List ℕ). values_read v.journal ++ l) (of_marks adds.marks later ∙ (of_access access.mode access.object access.value adds.told ∙ ap (read_by access.mode) (sym adds.value))))

pub reads_pending : (access : PendingAccess) (v w : SeatView) (why : Why) → AddsAccess access v (Pending why) w → values_read w.journal ≡ values_read v.journal
reads_pending access v w why adds =
    ap values_read adds.grown ∙ (values_split v.journal (map (λ mark. Marked mark) adds.marks ++ [])
    ∙ (ap (λ (l : List ℕ). values_read v.journal ++ l) (of_marks adds.marks []) ∙ append-nil (values_read v.journal)))

read_most : (journal : List Event) → length (values_read journal) ≤ access_count journal
read_most [] = omega arith
read_most (Read object value ∷ journal) = let h = read_most journal in omega arith
read_most (other ∷ journal) = let h = read_most journal in omega arith

-- a worker with fuel has room for what it reads, and for the marks before it
pub room_to_read : (worker : Worker) → worker.recorder.log.accesses < worker.fuel → length worker.reads.items < vec_capacity worker.reads
room_to_read worker more =
    let most = read_most (seat_of worker).journal in
    let are = ap (λ (l : List ℕ). length l) worker.reading in
    let a = worker.to_read in let b = worker.recorder.logged.accesses in omega arith

pub can_record : (worker : Worker) → worker.recorder.log.accesses < worker.fuel → CanRecord worker.recorder
can_record worker more =
    let few = worker.few in record {
      few = omega arith;
      near = omega arith;
      room = let room = worker.room in omega arith;
    }

pub slow_most : (fast : Bool) (slow : ℕ) → slow_by fast slow ≤ suc slow
slow_most true slow = omega arith
slow_most false slow = omega arith

-- what a worker keeps over a poll
module _ (worker : Worker) (words : Words) (n : ℕ) (r : Recorder) (keeps : KeepsSeat words n worker.recorder r) where
  pub still_whole : r.base ≡ 0
  still_whole = keeps.same_base ∙ worker.whole

  pub still_room : HasRoomForAll worker.fuel r.log (view r.seat).journal
  still_room = room_left worker.fuel worker.recorder.log r.log (seat_of worker).journal (view r.seat).journal keeps.takes worker.room

-- after a poll that made no access one can still be made
pub still_ready : (words : Words) (before after : Recorder) → KeepsSeat words before.log.accesses before after → CanRecord before → CanRecord after
still_ready words before after keeps can = can_still before.log after.log (view before.seat).journal (view after.seat).journal keeps.takes keeps.counts can
