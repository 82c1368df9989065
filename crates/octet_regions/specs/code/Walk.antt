-- How far the walk to a cycle has come.
use Rattle.std.specs.Prelude.{◌≡◌, ◌≢◌, ℕ, ◌<◌, ◌≤◌, ◌++◌, Bool, true, false, List, Some, None, Option, slice_get, sum_by}
use Rattle.octet_regions.specs.declared.access.Access.{Access}
use Rattle.octet_regions.specs.declared.last.LastRegions.{LastRegions}
use Rattle.octet_regions.specs.declared.region.Region.{Region}
use Rattle.octet_regions.specs.declared.region.Hop.{Hop}
use Rattle.octet_regions.specs.Choice.{IsWalk, walk_end}
use Rattle.octet_regions.specs.Before.{RegionBefore}
use Rattle.octet_regions.specs.code.Earlier.{KeepsLast, region_of}

-- a region of the thread, from a number on, that is before this one. None is earlier that is before this one by an
-- access at or after a place. With none told, there is none by such an access
abbrev pub EarliestFrom : List Access → ℕ → ℕ → ℕ → Region → Option ℕ → Type 0
EarliestFrom accesses place thread from region (Some number) =
    (from ≤ number) × RegionBefore accesses (region_of thread number) region
    × ((other : ℕ) (before : RegionBefore accesses (region_of thread other) region) → from ≤ other → place ≤ before.first → number ≤ other)
EarliestFrom accesses place thread from region None = (other : ℕ) (before : RegionBefore accesses (region_of thread other) region) → from ≤ other → ¬ (place ≤ before.first)

-- the earliest region of a thread, from a number on, that is before a region. With none told, there is none
abbrev pub EarliestIs : List Access → ℕ → ℕ → Region → Option ℕ → Type 0
EarliestIs accesses thread from region (Some number) =
    (from ≤ number) × RegionBefore accesses (region_of thread number) region
    × ((other : ℕ) → RegionBefore accesses (region_of thread other) region → from ≤ other → number ≤ other)
EarliestIs accesses thread from region None = (other : ℕ) → RegionBefore accesses (region_of thread other) region → ¬ (from ≤ other)

-- the accesses of a region from a place on are noted
pub record NotesFrom (accesses : List Access) (place : ℕ) (region : Region) (later : LastRegions) : Type 0 where
  pub seen : List Access
  pub keeps : KeepsLast seen later
  pub from_there : (i : ℕ) (access : Access) → slice_get seen i ≡ Some access → (access.region ≡ region) × ((j : ℕ) × (place ≤ j) × (slice_get accesses j ≡ Some access))
  pub all : (j : ℕ) (access : Access) → place ≤ j → slice_get accesses j ≡ Some access → access.region ≡ region → (i : ℕ) × (slice_get seen i ≡ Some access)

-- some hop leads into the thread
pub record HasInto (hops : List Hop) (thread : ℕ) : Type 0 where
  pub place : ℕ
  pub hop : Hop
  pub is_there : slice_get hops place ≡ Some hop
  pub into : hop.after.thread ≡ thread

-- the rest of the hops, from a hop on that leads into the thread
pub record IsFrom (hops : List Hop) (thread : ℕ) (rest : List Hop) : Type 0 where
  pub lead : List Hop
  pub parts : hops ≡ lead ++ rest
  pub first : Hop
  pub is_first : slice_get rest 0 ≡ Some first
  pub into : first.after.thread ≡ thread

-- a walk from a thread has come to another. Each thread where the walk was is marked, and the walk came there once
pub record WalksTo (accesses : List Access) (taken : List Region) (start at : ℕ) (came : List Bool) (hops : List Hop) : Type 0 where
  pub walks : IsWalk accesses taken start hops
  pub ends : walk_end start hops ≡ at
  pub once : (i j : ℕ) (one other : Hop) → i < j → slice_get hops i ≡ Some one → slice_get hops j ≡ Some other → one.after.thread ≢ other.after.thread
  pub marked : (i : ℕ) (hop : Hop) → slice_get hops i ≡ Some hop → slice_get came hop.after.thread ≡ Some true
  pub walked : (thread : ℕ) → slice_get came thread ≡ Some true → HasInto hops thread

-- the number of threads to which the walk did not come
abbrev pub fresh_of : List Bool → ℕ
fresh_of came = sum_by (λ b. elim b [ true ↦ 0 | false ↦ 1 ]) came
