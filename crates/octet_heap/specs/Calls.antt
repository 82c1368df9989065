-- What a poll does.
use Rattle.std.specs.Prelude.{◌≡◌, ℕ}
use Rattle.octet_state.specs.declared.act.Mode.{Mode}
use Rattle.octet_rule.specs.Views.{SeatView}
use Rattle.octet_heap.specs.declared.pending_access.PendingAccess.{PendingAccess}
use Rattle.octet_heap.specs.declared.poll.Poll.{Poll}
use Rattle.octet_heap.specs.declared.worker.Worker.{Worker}
use Rattle.octet_heap.specs.OwnersPath.{steps_since, TakesOwnersPath}
use Rattle.octet_heap.specs.Causes.{HasCause}
use Rattle.octet_heap.specs.Growth.{AddsAccess}
use Rattle.octet_heap.specs.SlowPath.{is_fast, slow_after}
use Rattle.octet_heap.specs.Workers.{seat_of, IsPoll}

-- the access of the object, with the value of a write or the amount of an update
abbrev pub access_to : ℕ → Mode → ℕ → PendingAccess
access_to object mode value = record { object = object; mode = mode; value = value }

-- a poll for this access: its steps, the reason why it is pending, and what it adds to its thread's journal.
-- It takes the owner's path where the first step lets the thread pass
pub record Polls (access : PendingAccess) (v : SeatView) (answer : Poll) (w : SeatView) : Type 0 where
  pub steps : IsPoll access v answer w
  pub cause : HasCause v.number (steps_since v w) answer
  pub journal : AddsAccess access v answer w
  pub path : TakesOwnersPath access v answer w

-- one more of the worker's accesses has taken the slow path, if this one has
abbrev pub CountsSlow : PendingAccess → Worker → Poll → Worker → Type 0
CountsSlow access before answer after =
    after.slow ≡ slow_after answer (is_fast access (seat_of before) (steps_since (seat_of before) (seat_of after))) before.slow
