-- How far the serial choice has come.
use Rattle.std.specs.Prelude.{◌≡◌, ℕ, ◌+◌, ◌<◌, ◌≤◌, ◌-◌, ◌^◌, List, [], Some, None, Option, length, slice_get, sum_by}
use Rattle.std.specs.List.{Contains}
use Rattle.octet_model.specs.declared.limits.TheConstants.{MAX_THREADS}
use Rattle.octet_regions.specs.declared.access.Access.{Access}
use Rattle.octet_regions.specs.declared.chooser.Chooser.{Chooser}
use Rattle.octet_regions.specs.declared.bounds.Bounds.{Bounds}
use Rattle.octet_regions.specs.declared.queue.RegionQueue.{RegionQueue}
use Rattle.octet_regions.specs.declared.queue.QueuedRegion.{QueuedRegion}
use Rattle.octet_regions.specs.declared.queue.Wait.{Wait}
use Rattle.octet_regions.specs.declared.region.Region.{Region}
use Rattle.octet_regions.specs.Before.{IsRegion}
use Rattle.octet_regions.specs.code.Bounds.{bound_in}
use Rattle.octet_regions.specs.Choice.{IsFree, IsChosen, IsSerialChoice}
use Rattle.octet_regions.specs.code.Earlier.{KeepsQueue, KnowsWaits, RegionsRise, region_of}

-- the accesses are of this number of threads, and each region's number has a number above it
pub record FitQueues (threads : ℕ) (accesses : List Access) : Type 0 where
  pub few : threads ≤ MAX_THREADS
  pub there : (place : ℕ) (access : Access) → slice_get accesses place ≡ Some access → access.region.thread < threads
  pub room : (place : ℕ) (access : Access) → slice_get accesses place ≡ Some access → access.region.number + 1 < 2 ^ 32

-- the regions of a queue before its place `taken` were taken. Their numbers are those below the thread's bound
pub record KeepsTaken (bound : ℕ) (queue : RegionQueue) : Type 0 where
  pub below : (i : ℕ) (item : QueuedRegion) → slice_get queue.regions.items i ≡ Some item → i < queue.taken → item.number < bound
  pub above : (i : ℕ) (item : QueuedRegion) → slice_get queue.regions.items i ≡ Some item → queue.taken ≤ i → bound ≤ item.number
  pub within : queue.taken ≤ length queue.regions.items

-- the waits of the regions that were taken are passed, and the waits that are passed are over
pub record HasPassed (upto : Bounds) (queue : RegionQueue) : Type 0 where
  pub of_taken : (i : ℕ) (item : QueuedRegion) → slice_get queue.regions.items i ≡ Some item → i < queue.taken → item.waits_upto ≤ queue.over
  pub are_over : (k : ℕ) (wait : Wait) → slice_get queue.waits.items k ≡ Some wait → k < queue.over → wait.bound ≤ bound_in upto wait.of

-- the chooser keeps the queues of all threads, the regions taken in order, and a bound for each thread
pub record KeepsChoice (accesses : List Access) (chooser : Chooser) : Type 0 where
  pub few : length chooser.queues.items ≤ MAX_THREADS
  pub queues : (thread : ℕ) (queue : RegionQueue) → slice_get chooser.queues.items thread ≡ Some queue → KeepsQueue accesses thread queue.regions.items queue.waits.items
  pub there : (region : Region) → IsRegion accesses region → region.thread < length chooser.queues.items
  pub taken : (thread : ℕ) (queue : RegionQueue) → slice_get chooser.queues.items thread ≡ Some queue → KeepsTaken (bound_in chooser.upto thread) queue
  pub passed : (thread : ℕ) (queue : RegionQueue) → slice_get chooser.queues.items thread ≡ Some queue → HasPassed chooser.upto queue
  pub ordered : (region : Region) → Contains chooser.order.items region → region.number < bound_in chooser.upto region.thread
  pub room : (region : Region) → IsRegion accesses region → region.number + 1 < 2 ^ 32
  pub bounded : (region : Region) → IsRegion accesses region → region.number < bound_in chooser.upto region.thread → Contains chooser.order.items region

-- the thread's next region, where it is free. With none told, no region of the thread is free
abbrev pub FreeIs : List Access → List Region → ℕ → Option ℕ → Type 0
FreeIs accesses taken thread (Some number) = IsFree accesses taken (region_of thread number)
FreeIs accesses taken thread None = (number : ℕ) → ¬ IsFree accesses taken (region_of thread number)

-- the chosen region. With none told, no region is free
abbrev pub ChosenIs : List Access → List Region → Option Region → Type 0
ChosenIs accesses taken (Some region) = IsChosen accesses taken region
ChosenIs accesses taken None = (region : Region) → ¬ IsFree accesses taken region

-- the waits of all regions are there in their queues
abbrev pub AreWithin : List RegionQueue → Type 0
AreWithin queues = (thread i : ℕ) (queue : RegionQueue) (item : QueuedRegion) → slice_get queues thread ≡ Some queue → slice_get queue.regions.items i ≡ Some item → item.waits_upto ≤ length queue.waits.items

-- the queue has no region and no wait
pub record IsEmptyQueue (queue : RegionQueue) : Type 0 where
  pub regions : queue.regions.items ≡ []
  pub waits : queue.waits.items ≡ []
  pub known : (thread : ℕ) → bound_in queue.known thread ≡ 0
  pub taken : queue.taken ≡ 0
  pub over : queue.over ≡ 0

-- each thread has an empty queue
pub record AreEmptyQueues (threads : ℕ) (queues : List RegionQueue) : Type 0 where
  pub as_many : length queues ≡ threads
  pub each : (thread : ℕ) (queue : RegionQueue) → slice_get queues thread ≡ Some queue → IsEmptyQueue queue

-- the queue of a thread's accesses, of which nothing was taken
pub record IsQueueOf (seen : List Access) (thread : ℕ) (queue : RegionQueue) : Type 0 where
  pub keeps : KeepsQueue seen thread queue.regions.items queue.waits.items
  pub knows : KnowsWaits queue.waits.items queue.known
  pub taken : queue.taken ≡ 0
  pub over : queue.over ≡ 0

-- the queues of these accesses, of which nothing was taken
pub record AreQueuesOf (threads : ℕ) (seen : List Access) (queues : List RegionQueue) : Type 0 where
  pub as_many : length queues ≡ threads
  pub each : (thread : ℕ) (queue : RegionQueue) → slice_get queues thread ≡ Some queue → IsQueueOf seen thread queue

-- the thread has a region left in its queue
pub record IsBehind (queues : List RegionQueue) (thread : ℕ) : Type 0 where
  pub queue : RegionQueue
  pub is_there : slice_get queues thread ≡ Some queue
  pub behind : queue.taken < length queue.regions.items

-- the number of regions left in the queues
abbrev pub left_of : List RegionQueue → ℕ
left_of queues = sum_by (λ queue. length queue.regions.items - queue.taken) queues

-- the lowest thread that has a region left. With none told, no thread has one
abbrev pub LowestBehind : List RegionQueue → Option ℕ → Type 0
LowestBehind queues (Some thread) = IsBehind queues thread × ((lower : ℕ) → lower < thread → ¬ IsBehind queues lower)
LowestBehind queues None = (thread : ℕ) → ¬ IsBehind queues thread

-- the serial choice has ended, and the chooser keeps it
pub record HasChosen (accesses : List Access) (chooser : Chooser) : Type 0 where
  pub keeps : KeepsChoice accesses chooser
  pub choice : IsSerialChoice accesses chooser.order.items
  pub none_free : (region : Region) → ¬ IsFree accesses chooser.order.items region

-- the choice has ended, among accesses that fit the queues
pub record IsStuck (accesses : List Access) (chooser : Chooser) : Type 0 where
  pub keeps : KeepsChoice accesses chooser
  pub none_free : (region : Region) → ¬ IsFree accesses chooser.order.items region
  pub threads : ℕ
  pub fit : FitQueues threads accesses
  pub rise : RegionsRise accesses
