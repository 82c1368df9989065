-- What C is told of schedules.
use Rattle.std.specs.Prelude.{◌≡◌, ◌⊎◌, ℕ, ◌<◌, ◌≤◌, ℤ, List, length, Option, Some}
use Rattle.octet_model.specs.declared.limits.TheConstants.{MAX_THREADS}
use Rattle.octet_schedule.specs.Draws.{next_draws}
use Rattle.octet_schedule.specs.Ready.{marked, NoneIsReady}
use Rattle.octet_schedule.specs.Schedules.{by_bursts, uniform, Picks, Prioritizes}
use Rattle.octet_schedule.specs.Ways.{drawn_changes}
use Rattle.octet_schedule.specs.declared.schedule.Schedule.{Schedule}
use Rattle.octet_c.specs.declared.held.Held.{Held}
use Rattle.octet_c.specs.declared.held.Held.TheVariants as held
use Rattle.octet_c.specs.declared.status.TheConstants as status
use Rattle.octet_c.specs.Statuses.{said_of_lack}

-- a new schedule of the way that C names by a number
pub record IsScheduled (way seed most : ℕ) (that : Schedule) : Type 0 where
  pub named : way ≤ 2
  pub is_uniform : way ≡ 0 → that ≡ uniform seed
  pub is_by_bursts : way ≡ 1 → that ≡ by_bursts seed most
  pub is_by_priorities : way ≡ 2 → Prioritizes (next_draws (next_draws seed)) (drawn_changes seed most) that

-- it is behind the handle
abbrev pub Schedules : ℕ → ℕ → ℕ → Option Held → Type 0
Schedules way seed most (Some (held.Schedule that)) = IsScheduled way seed most that
Schedules way seed most _ = ⊥

-- why none is made: C has named no way, or memory was refused
abbrev pub RefusesToSchedule : ℕ → ℤ → Type 0
RefusesToSchedule way said = ((2 < way) × (said ≡ status.NO_WAY)) ⊎ ((way ≤ 2) × (said ≡ status.NO_MEMORY))

-- so many threads may be marked
abbrev pub IsThreadCount : ℕ → Type 0
IsThreadCount threads = (1 ≤ threads) × (threads ≤ MAX_THREADS)

-- a marked thread is picked, and told; or none is marked, or no run has so many threads, and nothing has changed
abbrev pub PicksNext : Schedule → List ℕ → ℤ → ℕ → ℕ → Schedule → Type 0
PicksNext it marks said before thread that =
    (IsThreadCount (length marks) × (said ≡ status.READY) × Picks it (marked marks) thread that)
    ⊎ (IsThreadCount (length marks) × NoneIsReady (marked marks) × (said ≡ status.OVER) × (thread ≡ before) × (that ≡ it))
    ⊎ ((IsThreadCount (length marks) → ⊥) × (said ≡ status.BAD_SIZE) × (thread ≡ before) × (that ≡ it))

-- the schedule behind a handle picks so, if one is there. Else nothing has changed
abbrev pub PicksHeld : List ℕ → Option Held → ℤ → ℕ → ℕ → Option Held → Type 0
PicksHeld marks (Some (held.Schedule it)) said before thread (Some (held.Schedule that)) = PicksNext it marks said before thread that
PicksHeld marks (Some (held.Schedule it)) said before thread _ = ⊥
PicksHeld marks it said before thread that = (said ≡ said_of_lack status.NO_SCHEDULE it) × (thread ≡ before) × (that ≡ it)
