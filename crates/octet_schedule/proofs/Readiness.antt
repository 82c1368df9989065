-- Threads that are ready.
use Rattle.std.proofs.Common.{◌∙◌, sym, ◌≡◌, ◌<◌, ℕ, Bool, false, List, length, inl, inr, Option, Some}
use Rattle.std.specs.Option.{ForSome}
use Rattle.std.proofs.lemmas.Bool.{cases_lt, false≢true}
use Rattle.std.proofs.lemmas.List.{get_or_past}
use Rattle.octet_schedule.specs.Ready.{IsReady}

-- a thread that is ready is there
pub ready_below : (ready : List Bool) (thread : ℕ) → IsReady ready thread → thread < length ready
ready_below ready thread is_ready =
    elim (cases_lt thread (length ready)) [
      | inl below ↦ below
      | inr past ↦ absurd (false≢true (sym (get_or_past ready thread false past) ∙ is_ready))
    ]

-- so is the one at work, where it is ready
pub worker_below : (ready : List Bool) (at_work : Option ℕ) (thread : ℕ) → at_work ≡ Some thread → ForSome at_work (λ worker. IsReady ready worker) → thread < length ready
worker_below ready at_work thread is_it is_ready = ready_below ready thread (is_ready thread is_it)
