-- What a vector clock says.
use Rattle.std.specs.Prelude.{◌≡◌, ◌≢◌, ℕ, max, get_or, replicate}
use Rattle.octet_model.specs.declared.limits.TheConstants.{MAX_THREADS}
use Rattle.octet_clock.specs.declared.clock.Clock.{Clock}

-- the number of a thread's first events that the clock knows
abbrev pub count_in : Clock → ℕ → ℕ
count_in clock thread = get_or clock.counts thread 0

-- the clock that knows no event
abbrev pub no_events : Clock
no_events = record { counts = replicate MAX_THREADS 0 }

-- the clock after knows what the one before knows, and at least the first `count` events of one thread
pub record IsRaised (before : Clock) (thread count : ℕ) (after : Clock) : Type 0 where
  pub own : count_in after thread ≡ max (count_in before thread) count
  pub others : (other : ℕ) → other ≢ thread → count_in after other ≡ count_in before other

-- the clock `both` knows what either clock knows
abbrev pub IsJoined : Clock → Clock → Clock → Type 0
IsJoined one other both = (thread : ℕ) → count_in both thread ≡ max (count_in one thread) (count_in other thread)
