-- Bounds, one for each thread.
use denote.Ref.{Bor}
use Rattle.std.specs.Prelude.{◌≡◌, ◌≢◌, ℕ, suc, ◌<◌, ◌⊎◌, max, List, Option, Some, None, slice_get, length, get_or}
use Rattle.octet_regions.specs.declared.bounds.Bounds.{Bounds}

-- the bound of a thread, 0 where it has none
abbrev pub bound_in : Bounds → ℕ → ℕ
bound_in bounds thread = get_or bounds.bounds thread 0

-- the bounds after have at least this bound of one thread, and the bounds of the others as before
pub record IsRaised (before : Bounds) (thread bound : ℕ) (after : Bounds) : Type 0 where
  pub own : bound_in after thread ≡ max (bound_in before thread) bound
  pub others : (other : ℕ) → other ≢ thread → bound_in after other ≡ bound_in before other

-- the bounds, where there are some
abbrev pub bounds_of : Option (Bor Bounds) → ℕ → ℕ
bounds_of None thread = 0
bounds_of (Some bounds) thread = bound_in bounds.now thread

-- the bound is the least number above all for which something holds, and 0 where it holds for none
pub record IsBound (Holds : ℕ → Type 0) (bound : ℕ) : Type 0 where
  pub below : (number : ℕ) → Holds number → number < bound
  pub reached : (number : ℕ) → bound ≡ suc number → Holds number

-- the bound of an object's accesses by a thread, 0 where none is noted
abbrev pub last_in : List Bounds → ℕ → ℕ → ℕ
last_in objects object thread = elim (slice_get objects object) [ None ↦ 0 | Some bounds ↦ bound_in bounds thread ]

-- the bounds after have at least this bound of one thread and object, and all others as before
pub record IsNoted (before : List Bounds) (object thread bound : ℕ) (after : List Bounds) : Type 0 where
  pub own : last_in after object thread ≡ max (last_in before object thread) bound
  pub others : (other by : ℕ) → (other ≢ object) ⊎ (by ≢ thread) → last_in after other by ≡ last_in before other by

-- the object has bounds, and none is raised
pub record IsCovered (before : List Bounds) (object : ℕ) (after : List Bounds) : Type 0 where
  pub there : object < length after
  pub same : (other thread : ℕ) → last_in after other thread ≡ last_in before other thread
