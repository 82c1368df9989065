-- The accesses that a replay has made so far.
use Rattle.std.specs.Prelude.{◌≡◌, ℕ, ◌<◌, ◌≤◌, ◌∷◌, ◌++◌, [], List, Option, Some, None, length, take, slice_get}
use Rattle.octet_model.specs.declared.limits.TheConstants.{MAX_FUEL}
use Rattle.octet_model.specs.Orders.{lowest_order, opening_state}
use Rattle.octet_replay.specs.ReplayState.{HasHalted, ReplayState}
use Rattle.octet_regions.specs.declared.access.Access.{Access}
use Rattle.octet_regions.specs.Accesses.{accesses_along}

-- the accesses of the steps so far, by threads that are there, in regions of small numbers
pub record AccessesSoFar (r : ReplayState) (accesses : List Access) : Type 0 where
  pub all : accesses ≡ accesses_along r.script r.log.threads (opening_state r.script) (take r.steps (lowest_order r.script r.log.threads))
  pub there : (place : ℕ) (access : Access) → slice_get accesses place ≡ Some access → access.region.thread < length r.script.threads
  pub few : (place : ℕ) (access : Access) → slice_get accesses place ≡ Some access → access.region.number ≤ MAX_FUEL

-- one more access comes next in the lowest order. With none told, the order has ended without one
abbrev pub AddsAccess : ReplayState → Option Access → ReplayState → Type 0
AddsAccess before (Some access) after =
    ((seen : List Access) → AccessesSoFar before seen → AccessesSoFar after (seen ++ access ∷ []))
    × (access.region.thread < length before.script.threads) × (access.region.number ≤ MAX_FUEL)
    × (before.steps < after.steps) × (after.steps ≤ length (lowest_order before.script before.log.threads))
AddsAccess before None after = ((seen : List Access) → AccessesSoFar before seen → AccessesSoFar after seen) × HasHalted after
