-- What each thread waits for, and how far the threads and the draws have come.
use Rattle.std.specs.Prelude.{◌≡◌, ℕ, suc, ◌+◌, ◌<◌, Bool, true, false, if◌then◌else◌, ◌==◌, nat_le, List, length, replicate, Some, None, slice_get, slice_index, slice_set}
use Rattle.octet_replay.specs.declared.need.Need.{Need}
use Rattle.octet_replay.specs.declared.need.Need.TheVariants.{Free, Events, DrawsAre, DrawsReach, Never}

-- the need of each thread, the number of events that each has made, and the number of draws made
pub record NeedsAndCounts : Type 0 where
  pub needs : List Need
  pub events : List ℕ
  pub draws : ℕ

-- the needs with the counts before the first event
abbrev pub no_counts : List Need → NeedsAndCounts
no_counts needs = record { needs = needs; events = replicate (length needs) 0; draws = 0 }

-- the test whether a need is met where the threads have made these numbers of events and of draws
abbrev pub is_met : List ℕ → ℕ → Need → Bool
is_met events draws Free = true
is_met events draws (Events of count) = nat_le count (slice_index events of)
is_met events draws (DrawsAre count) = count == draws
is_met events draws (DrawsReach count) = nat_le count draws
is_met events draws Never = false

-- the test whether the thread is there and its need is met
abbrev pub is_ready : NeedsAndCounts → ℕ → Bool
is_ready w thread = elim (slice_get w.needs thread) [ None ↦ false | Some need ↦ is_met w.events w.draws need ]

-- the lowest thread whose need is met
pub record IsLowestReady (w : NeedsAndCounts) (thread : ℕ) : Type 0 where
  pub is_met : is_ready w thread ≡ true
  pub lowest : (lower : ℕ) → lower < thread → is_ready w lower ≡ false

-- the thread that a need names is one of so many threads
abbrev pub NamesThread : ℕ → Need → Type 0
NamesThread threads (Events of count) = of < threads
NamesThread threads _ = Unit {0}

-- the needs and counts after one more event of the thread, which may be a draw, with its next need
abbrev pub after_step : NeedsAndCounts → ℕ → Bool → Need → NeedsAndCounts
after_step w thread draw next = record {
  needs = slice_set w.needs thread next;
  events = slice_set w.events thread (suc (slice_index w.events thread));
  draws = if draw then suc w.draws else w.draws;
}

-- the needs and counts after so many more events of the thread, which keeps its need
abbrev pub after_events : NeedsAndCounts → ℕ → ℕ → NeedsAndCounts
after_events w thread more = record w { events = slice_set w.events thread (more + slice_index w.events thread) }
