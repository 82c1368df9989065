-- The serial choice of regions, and the walk to a cycle where it ends with regions left.
use Rattle.std.specs.Prelude.{◌≡◌, ◌≢◌, ℕ, ◌<◌, ◌≤◌, List, [], ◌∷◌, ◌++◌, length, Some, slice_get}
use Rattle.std.specs.List.{Contains}
use Rattle.octet_regions.specs.declared.region.Region.{Region}
use Rattle.octet_regions.specs.declared.region.Hop.{Hop}
use Rattle.octet_regions.specs.declared.access.Access.{Access}
use Rattle.octet_regions.specs.declared.serial.Serial.{Serial}
use Rattle.octet_regions.specs.declared.serial.Serial.TheVariants.{Order, Cycle}
use Rattle.octet_regions.specs.Before.{IsRegion, RegionBefore}

-- the region was not taken yet
pub record IsLeft (accesses : List Access) (taken : List Region) (region : Region) : Type 0 where
  pub is_region : IsRegion accesses region
  pub not_taken : ¬ Contains taken region

-- the region is the first of its thread's regions that are left
pub record IsNext (accesses : List Access) (taken : List Region) (region : Region) : Type 0 where
  pub left : IsLeft accesses taken region
  pub first : (other : Region) → IsLeft accesses taken other → other.thread ≡ region.thread → region.number ≤ other.number

-- the region is the next of its thread, and no region that is left is before it
pub record IsFree (accesses : List Access) (taken : List Region) (region : Region) : Type 0 where
  pub next : IsNext accesses taken region
  pub none_before : (other : Region) → IsLeft accesses taken other → ¬ RegionBefore accesses other region

-- the region is the free one of the lowest thread that has a free region
pub record IsChosen (accesses : List Access) (taken : List Region) (region : Region) : Type 0 where
  pub free : IsFree accesses taken region
  pub lowest : (other : Region) → IsFree accesses taken other → region.thread ≤ other.thread

-- a choice after some regions were taken: each time the chosen region, until no region is free
abbrev pub IsChoice : List Access → List Region → List Region → Type 0
IsChoice accesses taken [] = (region : Region) → ¬ IsFree accesses taken region
IsChoice accesses taken (region ∷ order) = IsChosen accesses taken region × IsChoice accesses (taken ++ region ∷ []) order

-- the serial choice is the choice from the start, where no region was taken
abbrev pub IsSerialChoice : List Access → List Region → Type 0
IsSerialChoice accesses order = IsChoice accesses [] order

-- the order takes all regions
abbrev pub TakesAll : List Access → List Region → Type 0
TakesAll accesses order = (region : Region) → IsRegion accesses region → Contains order region

-- the hop into a thread's next region, after some regions were taken. It comes from the earliest region left
-- before that one, of the lowest thread that has such a region
pub record IsHop (accesses : List Access) (taken : List Region) (hop : Hop) : Type 0 where
  pub into_next : IsNext accesses taken hop.after
  pub left : IsLeft accesses taken hop.before
  pub is_before : RegionBefore accesses hop.before hop.after
  pub lowest : (other : Region) → IsLeft accesses taken other → RegionBefore accesses other hop.after → hop.before.thread ≤ other.thread
  pub earliest : (other : Region) → IsLeft accesses taken other → RegionBefore accesses other hop.after → other.thread ≡ hop.before.thread → hop.before.number ≤ other.number

-- a walk from a thread: each hop leads into the next region of the thread where the walk is.
-- The walk goes on at the thread that the hop comes from
abbrev pub IsWalk : List Access → List Region → ℕ → List Hop → Type 0
IsWalk accesses taken thread [] = Unit {0}
IsWalk accesses taken thread (hop ∷ hops) = (hop.after.thread ≡ thread) × IsHop accesses taken hop × IsWalk accesses taken hop.before.thread hops

-- the thread to which a walk comes
abbrev pub walk_end : ℕ → List Hop → ℕ
walk_end thread [] = thread
walk_end thread (hop ∷ hops) = walk_end hop.before.thread hops

-- the lowest thread that has regions left
pub record IsLowestLeft (accesses : List Access) (taken : List Region) (thread : ℕ) : Type 0 where
  pub region : Region
  pub left : IsLeft accesses taken region
  pub of_thread : region.thread ≡ thread
  pub lowest : (other : Region) → IsLeft accesses taken other → thread ≤ other.thread

-- the walk from the lowest thread with regions left ends where it comes to a thread for the second time.
-- The cycle is its hops from that thread's first time on
pub record IsCycle (accesses : List Access) (taken : List Region) (cycle : List Hop) : Type 0 where
  pub start : ℕ
  pub starts : IsLowestLeft accesses taken start
  pub lead : List Hop
  pub walks : IsWalk accesses taken start (lead ++ cycle)
  pub some : 0 < length cycle
  pub once : (i j : ℕ) (one other : Hop) → i < j → slice_get (lead ++ cycle) i ≡ Some one → slice_get (lead ++ cycle) j ≡ Some other → one.after.thread ≢ other.after.thread
  pub comes_back : (first : Hop) → slice_get cycle 0 ≡ Some first → walk_end start (lead ++ cycle) ≡ first.after.thread

-- an order is the serial choice of all regions. A cycle is the one to which the choice leads
-- where it leaves regions
abbrev pub IsSerial : List Access → Serial → Type 0
IsSerial accesses (Order regions) = IsSerialChoice accesses regions × TakesAll accesses regions
IsSerial accesses (Cycle hops) = (taken : List Region) × IsSerialChoice accesses taken × ¬ TakesAll accesses taken × IsCycle accesses taken hops
