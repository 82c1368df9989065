-- What is known of the accesses that were seen so far.
use Rattle.std.specs.Prelude.{◌≡◌, ◌≢◌, ℕ, ◌-◌, ◌<◌, ◌≤◌, ◌⊎◌, ◌||◌, Bool, true, false, IsTrue, List, Option, Some, None, length, nat_lt, slice_get}
use Rattle.octet_model.specs.HappensBefore.{object_of, is_write}
use Rattle.octet_regions.specs.declared.access.Access.{Access}
use Rattle.octet_regions.specs.declared.bounds.Bounds.{Bounds}
use Rattle.octet_regions.specs.declared.queue.RegionQueue.{RegionQueue}
use Rattle.octet_regions.specs.declared.queue.QueuedRegion.{QueuedRegion}
use Rattle.octet_regions.specs.declared.queue.Wait.{Wait}
use Rattle.octet_regions.specs.declared.last.LastRegions.{LastRegions}
use Rattle.octet_regions.specs.declared.region.Region.{Region}
use Rattle.octet_regions.specs.Before.{InConflict, IsRegion, RegionBefore}
use Rattle.octet_regions.specs.code.Bounds.{bound_in, last_in, IsBound}

-- the region has an access of the object, and a writing one unless any access will do
pub record Touches (seen : List Access) (any : Bool) (object : ℕ) (region : Region) : Type 0 where
  pub place : ℕ
  pub access : Access
  pub is_there : slice_get seen place ≡ Some access
  pub in_region : access.region ≡ region
  pub of_object : object_of access.event ≡ Some object
  pub writes : IsTrue (is_write access.event || any)

-- the region has an access in conflict with this one
pub record Conflicts (seen : List Access) (region : Region) (access : Access) : Type 0 where
  pub place : ℕ
  pub one : Access
  pub is_there : slice_get seen place ≡ Some one
  pub in_region : one.region ≡ region
  pub conflict : InConflict one access

-- the region of a thread and a number
abbrev pub region_of : ℕ → ℕ → Region
region_of thread number = record { thread = thread; number = number }

-- the last regions of each thread with an access of an object are kept, and those with a writing access
pub record KeepsLast (seen : List Access) (last : LastRegions) : Type 0 where
  pub all : (object thread : ℕ) → IsBound (λ number. Touches seen true object (region_of thread number)) (last_in last.all.objects.items object thread)
  pub writing : (object thread : ℕ) → IsBound (λ number. Touches seen false object (region_of thread number)) (last_in last.writing.objects.items object thread)

-- the bound of each other thread is just above its last region with an access in conflict with this one
abbrev pub BoundConflicts : List Access → Access → (ℕ → ℕ) → Type 0
BoundConflicts seen access bound = (thread : ℕ) → thread ≢ access.region.thread → IsBound (λ number. Conflicts seen (region_of thread number) access) (bound thread)

-- one of the first waits is for a region of the thread that has this number or a higher one
pub record IsAwaited (waits : List Wait) (upto thread number : ℕ) : Type 0 where
  pub place : ℕ
  pub wait : Wait
  pub is_there : slice_get waits place ≡ Some wait
  pub sooner : place < upto
  pub of_thread : wait.of ≡ thread
  pub above : number < wait.bound

-- all that is known is waited for
abbrev pub KnowsWaits : List Wait → Bounds → Type 0
KnowsWaits waits known = (thread number : ℕ) → number < bound_in known thread → IsAwaited waits (length waits) thread number

-- the waits after are longer by waits for what the bounds of other threads have beyond what is known
pub record AddsWaits (thread : ℕ) (conflicts : ℕ → ℕ) (before : List Wait) (known : Bounds) (after : List Wait) (known_then : Bounds) : Type 0 where
  pub longer : length before ≤ length after
  pub same : (k : ℕ) (wait : Wait) → slice_get before k ≡ Some wait → slice_get after k ≡ Some wait
  pub added : (k : ℕ) (wait : Wait) → length before ≤ k → slice_get after k ≡ Some wait → (wait.of ≢ thread) × (0 < wait.bound) × (wait.bound ≡ conflicts wait.of)
  pub covers : (other number : ℕ) → other ≢ thread → number < conflicts other → number < bound_in known_then other
  pub knows : KnowsWaits before known → KnowsWaits after known_then

-- the wait is for a region of another thread that is before this one
pub record HoldsBack (seen : List Access) (region : Region) (wait : Wait) : Type 0 where
  pub by_other : wait.of ≢ region.thread
  pub some_bound : 0 < wait.bound
  pub is_before : RegionBefore seen (region_of wait.of (wait.bound - 1)) region

-- the regions of a thread are kept in order, with what they wait for. Each wait holds back the first region
-- whose waits reach it. A region before another is waited for up to the last wait of the other
pub record KeepsQueue (seen : List Access) (thread : ℕ) (regions : List QueuedRegion) (waits : List Wait) : Type 0 where
  pub rising : (i j : ℕ) (one other : QueuedRegion) → i < j → slice_get regions i ≡ Some one → slice_get regions j ≡ Some other → one.number < other.number
  pub each : (i : ℕ) (item : QueuedRegion) → slice_get regions i ≡ Some item → IsRegion seen (region_of thread item.number)
  pub all : (number : ℕ) → IsRegion seen (region_of thread number) → (i : ℕ) × (item : QueuedRegion) × (slice_get regions i ≡ Some item) × (item.number ≡ number)
  pub in_order : (i j : ℕ) (one other : QueuedRegion) → i < j → slice_get regions i ≡ Some one → slice_get regions j ≡ Some other → one.waits_upto ≤ other.waits_upto
  pub within : (i : ℕ) (item : QueuedRegion) → slice_get regions i ≡ Some item → item.waits_upto ≤ length waits
  pub spanned : (k : ℕ) → k < length waits → (i : ℕ) × (item : QueuedRegion) × (slice_get regions i ≡ Some item) × (k < item.waits_upto)
  pub held : (i k : ℕ) (item : QueuedRegion) (wait : Wait) → slice_get regions i ≡ Some item → slice_get waits k ≡ Some wait → k < item.waits_upto
      → ((j : ℕ) (earlier : QueuedRegion) → j < i → slice_get regions j ≡ Some earlier → earlier.waits_upto ≤ k) → HoldsBack seen (region_of thread item.number) wait
  pub awaited : (i : ℕ) (item : QueuedRegion) (region : Region) → slice_get regions i ≡ Some item → RegionBefore seen region (region_of thread item.number) → IsAwaited waits item.waits_upto region.thread region.number

-- some waits of a queue that are over by these bounds are passed, and nothing else changes
pub record PassesWaits (before : RegionQueue) (taken : Bounds) (after : RegionQueue) : Type 0 where
  pub regions : after.regions ≡ before.regions
  pub waits : after.waits ≡ before.waits
  pub taken_is : after.taken ≡ before.taken
  pub further : before.over ≤ after.over
  pub passed : (k : ℕ) (wait : Wait) → before.over ≤ k → k < after.over → slice_get before.waits.items k ≡ Some wait → wait.bound ≤ bound_in taken wait.of

-- the next region of the queue waits for a region that is not taken
pub record IsHeld (queue : RegionQueue) (taken : Bounds) (item : QueuedRegion) : Type 0 where
  pub is_next : slice_get queue.regions.items queue.taken ≡ Some item
  pub wait : Wait
  pub is_there : slice_get queue.waits.items queue.over ≡ Some wait
  pub sooner : queue.over < item.waits_upto
  pub above : bound_in taken wait.of < wait.bound

-- the number of the queue's next region, which waits for nothing more. With none told, that region is held,
-- or no region is left
abbrev pub TellsFree : RegionQueue → Bounds → Option ℕ → Type 0
TellsFree queue taken (Some number) = (item : QueuedRegion) × (slice_get queue.regions.items queue.taken ≡ Some item) × (item.number ≡ number) × (item.waits_upto ≤ queue.over)
TellsFree queue taken None = (slice_get queue.regions.items queue.taken ≡ None) ⊎ ((item : QueuedRegion) × IsHeld queue taken item)

-- some wait of the queue from its first that is not over, up to a place, is for a region of this thread
-- that is not taken
pub record IsUnmet (queue : RegionQueue) (taken : Bounds) (upto other : ℕ) : Type 0 where
  pub place : ℕ
  pub wait : Wait
  pub is_there : slice_get queue.waits.items place ≡ Some wait
  pub from_here : queue.over ≤ place
  pub sooner : place < upto
  pub of_thread : wait.of ≡ other
  pub above : bound_in taken other < wait.bound

-- the lowest thread that some wait is unmet for. With none told, no wait is unmet
abbrev pub LowestUnmet : RegionQueue → Bounds → ℕ → Option ℕ → Type 0
LowestUnmet queue taken upto (Some other) = IsUnmet queue taken upto other × ((lower : ℕ) → lower < other → ¬ IsUnmet queue taken upto lower)
LowestUnmet queue taken upto None = (other : ℕ) → ¬ IsUnmet queue taken upto other

-- the test whether the thread is lower than the other, if there is another
abbrev pub is_lower : ℕ → Option ℕ → Bool
is_lower thread (Some other) = nat_lt thread other
is_lower thread None = true

-- the numbers of a thread's regions never fall
abbrev pub RegionsRise : List Access → Type 0
RegionsRise accesses = (i j : ℕ) (one other : Access) → i < j → slice_get accesses i ≡ Some one → slice_get accesses j ≡ Some other → one.region.thread ≡ other.region.thread → one.region.number ≤ other.region.number
