-- Regions that run one after another, and hops that close a cycle.
use Rattle.std.specs.Prelude.{◌≡◌, ℕ, suc, ◌<◌, ◌≤◌, Bool, ◌==◌, ◌&&◌, List, [], map, Some, length, slice_get}
use Rattle.std.specs.List.{filter, flat_map}
use Rattle.octet_model.specs.declared.script.Script.{Script}
use Rattle.octet_model.specs.declared.log.ThreadLog.{ThreadLog}
use Rattle.octet_model.specs.Orders.{execution, lowest_order, IsLawfulOrder}
use Rattle.octet_regions.specs.declared.region.Region.{Region}
use Rattle.octet_regions.specs.declared.region.Hop.{Hop}
use Rattle.octet_regions.specs.declared.access.Access.{Access}
use Rattle.octet_regions.specs.declared.serial.Serial.{Serial}
use Rattle.octet_regions.specs.declared.serial.Serial.TheVariants.{Order, Cycle}
use Rattle.octet_regions.specs.Accesses.{accesses_of}
use Rattle.octet_regions.specs.Before.{IsRegion, RegionBefore}

-- the log without marks: each thread makes its accesses, and waits for nothing
abbrev pub without_marks : List ThreadLog → List ThreadLog
without_marks log = map (λ thread. record { accesses = thread.accesses; marks = [] }) log

-- the test whether an access is in the region
abbrev pub is_in : Region → Access → Bool
is_in region access = (access.region.thread == region.thread) && (access.region.number == region.number)

-- the steps of the regions in turn: each thread makes all accesses of its region
abbrev pub serial_run : List Access → List Region → List ℕ
serial_run accesses order = flat_map (λ region. map (λ access. access.region.thread) (filter (is_in region) accesses)) order

-- the threads run their regions one after another, on one heap and without marks.
-- This run has the outcome of the lowest order
abbrev pub RunsSerially : Script → List ThreadLog → List Region → Type 0
RunsSerially script log order =
    IsLawfulOrder script (without_marks log) (serial_run (accesses_of script log) order)
    × (execution script (without_marks log) (serial_run (accesses_of script log) order) ≡ execution script log (lowest_order script log))

-- the order has every region once, and those of a thread in their order
pub record ListsRegions (accesses : List Access) (order : List Region) : Type 0 where
  pub each_is_one : (place : ℕ) (region : Region) → slice_get order place ≡ Some region → IsRegion accesses region
  pub each_comes : (region : Region) → IsRegion accesses region → (place : ℕ) × (slice_get order place ≡ Some region)
  pub in_order : (first second : ℕ) (one other : Region) → first < second → slice_get order first ≡ Some one → slice_get order second ≡ Some other → one.thread ≡ other.thread → one.number < other.number

-- a hop leads on to the next one. The region that it comes from is, in its thread,
-- at or after the region into which the next hop leads
pub record LeadsOn (hop next : Hop) : Type 0 where
  pub same : hop.before.thread ≡ next.after.thread
  pub at_or_after : next.after.number ≤ hop.before.number

-- the hops close a cycle: the first region of each is before its second.
-- Each hop leads on to the next, and the last to the first
pub record ClosesCycle (accesses : List Access) (hops : List Hop) : Type 0 where
  pub some : 0 < length hops
  pub each : (place : ℕ) (hop : Hop) → slice_get hops place ≡ Some hop → RegionBefore accesses hop.before hop.after
  pub on : (place : ℕ) (hop next : Hop) → slice_get hops place ≡ Some hop → slice_get hops (suc place) ≡ Some next → LeadsOn hop next
  pub back : (last : ℕ) (hop next : Hop) → suc last ≡ length hops → slice_get hops last ≡ Some hop → slice_get hops 0 ≡ Some next → LeadsOn hop next

-- what an answer shows: its regions run one after another with the same outcome, or its hops close a cycle
abbrev pub Shows : Script → List ThreadLog → Serial → Type 0
Shows script log (Order regions) = RunsSerially script log regions × ListsRegions (accesses_of script log) regions
Shows script log (Cycle hops) = ClosesCycle (accesses_of script log) hops
