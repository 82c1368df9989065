-- Threads that are ready.
use Rattle.std.specs.Prelude.{◌≡◌, ◌≢◌, ℕ, ◌<◌, ◌≤◌, ◌⊎◌, Bool, true, false, ◌%◌, if◌then◌else◌, List, Option, None, Some, get_or, length, map, not, ◌==◌}
use Rattle.octet_schedule.specs.Draws.{drawn, next_draws}

-- the thread is ready
abbrev pub IsReady : List Bool → ℕ → Type 0
IsReady ready thread = get_or ready thread false ≡ true

-- the threads that a host marks as ready, by bytes other than 0
abbrev pub marked : List ℕ → List Bool
marked marks = map (λ mark. not (mark == 0)) marks

-- some thread is
abbrev pub SomeIsReady : List Bool → Type 0
SomeIsReady ready = (thread : ℕ) × IsReady ready thread

-- none is
abbrev pub NoneIsReady : List Bool → Type 0
NoneIsReady ready = (thread : ℕ) → IsReady ready thread → ⊥

-- the thread is ready, and is not the one that is passed over
pub record IsCandidate (ready : List Bool) (passed_over : Option ℕ) (thread : ℕ) : Type 0 where
  pub is_ready : IsReady ready thread
  pub other : Some thread ≢ passed_over

-- some thread is
abbrev pub SomeIsCandidate : List Bool → Option ℕ → Type 0
SomeIsCandidate ready passed_over = (thread : ℕ) × IsCandidate ready passed_over thread

-- none of these threads is
abbrev pub NoneIn : List Bool → Option ℕ → ℕ → ℕ → Type 0
NoneIn ready passed_over from upto = (thread : ℕ) → from ≤ thread → thread < upto → IsCandidate ready passed_over thread → ⊥

-- the first of these threads that is
pub record IsFirstIn (ready : List Bool) (passed_over : Option ℕ) (from upto thread : ℕ) : Type 0 where
  pub low : from ≤ thread
  pub high : thread < upto
  pub candidate : IsCandidate ready passed_over thread
  pub first : NoneIn ready passed_over from thread

-- whoever goes round the threads from this one on comes to one thread before the other
abbrev pub ComesBefore : ℕ → ℕ → ℕ → Type 0
ComesBefore from one other = (from ≤ one) × ((one < other) ⊎ (other < from)) ⊎ ((one < other) × (other < from))

-- so the first one that is
pub record IsNearest (ready : List Bool) (passed_over : Option ℕ) (from thread : ℕ) : Type 0 where
  pub candidate : IsCandidate ready passed_over thread
  pub nearest : (other : ℕ) → ComesBefore from other thread → IsCandidate ready passed_over other → ⊥

-- that one, or the one that is passed over, where no other is ready
abbrev pub IsNextFrom : List Bool → Option ℕ → ℕ → ℕ → Type 0
IsNextFrom ready passed_over from thread =
    IsNearest ready passed_over from thread ⊎ ((Some thread ≡ passed_over) × IsReady ready thread × NoneIn ready passed_over 0 (length ready))

-- a number is drawn, and the first one that is ready from it on
abbrev pub IsDrawn : ℕ → List Bool → Option ℕ → ℕ → ℕ → Type 0
IsDrawn draws ready passed_over thread now = IsNextFrom ready passed_over (drawn draws % length ready) thread × (now ≡ next_draws draws)

-- the thread, if it is ready
abbrev pub still_ready : List Bool → Option ℕ → Option ℕ
still_ready ready None = None
still_ready ready (Some thread) = if get_or ready thread false then Some thread else None
