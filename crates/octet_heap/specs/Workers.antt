-- What a clause says of a heap and its workers.
use Rattle.std.specs.Prelude.{◌≡◌, ◌⊎◌, true, ℕ, ◌+◌, ◌≤◌, List, ◌∷◌, ◌++◌, length, Option, Some, None}
use Rattle.std.specs.Option.{is_some}
use Rattle.octet_state.specs.declared.phase.Phase.TheVariants.{Idle}
use Rattle.octet_state.specs.declared.phase.Due.TheVariants.{Nothing}
use Rattle.octet_rule.specs.Conditions.{IsResting}
use Rattle.octet_rule.specs.Views.{SeatView, Taken, stepped_by}
use Rattle.octet_rule.specs.Seats.{view, IsSeatOf, objects_of}
use Rattle.octet_heap.specs.declared.pending_access.PendingAccess.{PendingAccess}
use Rattle.octet_heap.specs.declared.poll.Poll.{Poll}
use Rattle.octet_heap.specs.declared.poll.Poll.TheVariants.{Ready, Pending}
use Rattle.octet_heap.specs.declared.heap.Heap.{Heap}
use Rattle.octet_heap.specs.declared.worker.Worker.{Worker}
use Rattle.octet_heap.specs.Walks.{access_task, after_steps, IsNext}
use Rattle.octet_heap.specs.Polls.{answer_to, GoesBy, PaysBy}
use Rattle.octet_heap.specs.Standing.{begun_of, IsOne, IsAbout, HasFuel, IsWithin}

-- the view of a worker's seat
abbrev pub seat_of : Worker → SeatView
seat_of worker = view worker.recorder.seat

-- the access that a worker has begun, if it has begun one
abbrev pub begun_in : Worker → Option PendingAccess
begun_in worker = begun_of worker.pending worker.changing

-- the worker is one of this heap's, and stands as workers do between two calls
pub record IsWorkerOf (heap : Heap) (worker : Worker) : Type 0 where
  pub own : IsSeatOf heap.words worker.recorder.seat
  pub same_fuel : worker.fuel ≡ heap.fuel
  pub owes_nothing : (seat_of worker).thread.due ≡ Nothing
  pub one : IsOne worker.pending worker.changing
  pub about : IsAbout (seat_of worker).threads (begun_in worker) (seat_of worker).thread.phase
  pub fuelled : HasFuel (begun_in worker) worker.recorder.log.accesses worker.fuel
  pub within : IsWithin (objects_of heap.words) (begun_in worker)

-- the worker runs, and has begun no access
abbrev pub IsIdle : Worker → Type 0
IsIdle worker = ((seat_of worker).thread.phase ≡ Idle) × (worker.pending ≡ None) × (worker.changing ≡ None)

-- the number of accesses of a worker that took the slow path
abbrev pub slow_of : Worker → ℕ
slow_of worker = worker.slow

-- the worker is off or blocked
abbrev pub Rests : Worker → Type 0
Rests worker = IsResting (view worker.recorder.seat).thread.phase

-- the worker has begun an access, or an update by a change
abbrev pub IsUnderWay : Worker → Type 0
IsUnderWay worker = (is_some worker.pending ≡ true) ⊎ (is_some worker.changing ≡ true)

-- the worker is idle once its access is made. Until then the access stays begun
abbrev pub StandsAfter : Poll → Worker → Type 0
StandsAfter (Ready value) worker = IsIdle worker
StandsAfter (Pending why) worker = IsUnderWay worker

-- the worker has begun no access once its access is made
abbrev pub IsIdleIfMade : Poll → Worker → Type 0
IsIdleIfMade (Ready value) worker = IsIdle worker
IsIdleIfMade (Pending why) worker = Unit {0}

-- the access or update that is begun after an answer: it stays begun until it is made
abbrev pub pending_after : {A : Type 0} → Poll → Option A → Option A
pending_after (Ready value) begun = None
pending_after (Pending why) begun = begun

-- the steps of a poll, in order: some by which it goes on, and one by which it answers.
-- A pending poll ends with a safe point. There are at most nineteen steps
pub record IsPoll (access : PendingAccess) (v : SeatView) (answer : Poll) (w : SeatView) : Type 0 where
  pub going : List Taken
  pub last : Taken
  pub at_safe_point : List Taken
  pub goes : GoesBy access v going
  pub is_next : IsNext (access_task access) (after_steps going v) last
  pub answers : answer_to (after_steps going v) last ≡ Some answer
  pub pays : PaysBy access (stepped_by last.kind last.word (after_steps going v)) at_safe_point
  pub few : length going + 1 + length at_safe_point ≤ 19
  pub after : w ≡ after_steps (going ++ last ∷ at_safe_point) v
  pub trail : w.trail ≡ v.trail ++ (going ++ last ∷ at_safe_point)
