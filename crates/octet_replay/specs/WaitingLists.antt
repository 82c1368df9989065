-- When each thread stands among those that may step, or on the list of what it waits for.
use Rattle.std.specs.Prelude.{◌≡◌, ◌≢◌, ℕ, suc, ◌<◌, ◌≤◌, true, length, Some, slice_get, slice_index}
use Rattle.octet_model.specs.declared.limits.TheConstants.{MAX_THREADS}
use Rattle.octet_replay.specs.declared.need.Need.{Need}
use Rattle.octet_replay.specs.declared.need.Need.TheVariants.{Events, DrawsAre, DrawsReach}
use Rattle.octet_replay.specs.declared.waiting.WaitingList.{WaitingList}
use Rattle.octet_replay.specs.declared.waits.Lists.{Lists}
use Rattle.octet_replay.specs.Needs.{NeedsAndCounts, is_ready, NamesThread}
use Rattle.octet_replay.specs.ThreadSet.{has}

-- the thread is on the list, which is looked at when the count comes to this number, or sooner
pub record Awaits (list : WaitingList) (thread number : ℕ) : Type 0 where
  pub is_in : has list.threads thread ≡ true
  pub soonest : list.soonest ≤ number

-- the needs and the counts of the lists
abbrev pub counts_of : Lists → NeedsAndCounts
counts_of l = record { needs = l.needs.items; events = l.events.items; draws = l.draws }

-- the thread is on the list of the count at which its need may change, if there is such a count
abbrev pub IsListed : Lists → ℕ → Need → Type 0
IsListed l thread (Events of count) = (list : WaitingList) → slice_get l.at_events.items of ≡ Some list → slice_index l.events.items of < count → Awaits list thread count
IsListed l thread (DrawsAre count) = (l.draws ≡ count → Awaits l.at_draws thread (suc count)) × (l.draws < count → Awaits l.at_draws thread count)
IsListed l thread (DrawsReach count) = l.draws < count → Awaits l.at_draws thread count
IsListed l thread _ = Unit {0}

-- the thread is among those that may step exactly where its need is met, and on a list where its need may change
pub record IsPlaced (l : Lists) (thread : ℕ) : Type 0 where
  pub ready : has l.ready thread ≡ is_ready (counts_of l) thread
  pub listed : (need : Need) → slice_get l.needs.items thread ≡ Some need → IsListed l thread need

-- the lists have a need, a count and a list for each thread, needs name these threads,
-- and there are no more threads than a script may have
pub record IsSized (l : Lists) : Type 0 where
  pub few : length l.needs.items ≤ MAX_THREADS
  pub events : length l.events.items ≡ length l.needs.items
  pub lists : length l.at_events.items ≡ length l.needs.items
  pub names : (thread : ℕ) (need : Need) → slice_get l.needs.items thread ≡ Some need → NamesThread (length l.needs.items) need

-- every thread but one is placed
abbrev pub ArePlacedBut : Lists → ℕ → Type 0
ArePlacedBut l but = (thread : ℕ) → thread ≢ but → IsPlaced l thread

-- the lists have these needs and counts, and are as many as before
pub record Keeps (counts : NeedsAndCounts) (before after : Lists) : Type 0 where
  pub counts_are : counts_of after ≡ counts
  pub as_many : length after.at_events.items ≡ length before.at_events.items

-- the needs and counts after one more draw
abbrev pub with_draw : NeedsAndCounts → NeedsAndCounts
with_draw w = record w { draws = suc w.draws }

-- every thread is placed, and the lists are sized
pub record AreKept (l : Lists) : Type 0 where
  pub sized : IsSized l
  pub placed : (thread : ℕ) → IsPlaced l thread
