-- What is in a set of threads.
use Rattle.std.specs.Prelude.{◌≡◌, ℕ, ◌<◌, Bool, true, false, ◌==◌}
use Rattle.std.specs.Int.{bit_at}
use Rattle.octet_model.specs.declared.limits.TheConstants.{MAX_THREADS}
use Rattle.octet_replay.specs.declared.thread_set.ThreadSet.{ThreadSet}

-- the test whether a thread is in the set
abbrev pub has : ThreadSet → ℕ → Bool
has set thread = bit_at set.bits thread == 1

-- the lowest thread of the set
pub record IsLowestIn (set : ThreadSet) (thread : ℕ) : Type 0 where
  pub within : thread < MAX_THREADS
  pub is_in : has set thread ≡ true
  pub lowest : (lower : ℕ) → lower < thread → has set lower ≡ false
