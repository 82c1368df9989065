-- When a clock is the past of a thread's first events, and when a thread's marks are kept with their clocks.
use Rattle.std.specs.Prelude.{◌≡◌, ℕ, suc, ◌+◌, ◌*◌, ◌<◌, ◌≤◌, ◌↔◌, ◌⊎◌, nat_lt, if◌then◌else◌, List, Some, length, get_or, slice_get}
use Rattle.octet_model.specs.declared.event.Place.{Place}
use Rattle.octet_model.specs.declared.limits.TheConstants.{MAX_THREADS}
use Rattle.octet_model.specs.Machine.{Journals}
use Rattle.octet_model.specs.Past.{InPast}
use Rattle.octet_clock.specs.declared.clock.Clock.{Clock}
use Rattle.octet_clock.specs.declared.marks.Marks.{Marks}
use Rattle.octet_clock.specs.declared.sources.Prefix.{Prefix}
use Rattle.octet_clock.specs.Clock.{count_in}

-- the counts are the past of a thread's first `now` events.
-- An event lies in that past exactly where its thread's count has it
abbrev pub ArePastOf : Journals → ℕ → ℕ → (ℕ → ℕ) → Type 0
ArePastOf journals thread now known = (place : Place) → InPast journals thread now place ↔ (place.event < known place.thread)

-- the clock is the past of a thread's first `now` events
abbrev pub IsPastOf : Journals → ℕ → ℕ → Clock → Type 0
IsPastOf journals thread now clock = ArePastOf journals thread now (count_in clock)

-- the past of a thread's first `now` events has that of another's first ones
abbrev pub HasPast : Journals → ℕ → ℕ → Prefix → Type 0
HasPast journals thread now first = (place : Place) → InPast journals first.thread first.count place → InPast journals thread now place

-- an event takes nothing but itself into the past of its thread
abbrev pub AddsNothing : Journals → ℕ → ℕ → Type 0
AddsNothing journals thread event = (place : Place) → InPast journals thread (suc event) place → InPast journals thread event place ⊎ (place ≡ record { thread = thread; event = event })

-- the mark at this place of its journal is kept
abbrev pub IsKept : List ℕ → ℕ → Type 0
IsKept events event = (i : ℕ) × (slice_get events i ≡ Some event)

-- the number of a thread's first events that are known after a kept mark
abbrev pub count_after : Marks → ℕ → ℕ → ℕ
count_after marks place thread = if nat_lt thread marks.threads then get_or marks.counts.items (place * marks.threads + thread) 0 else 0

-- the marks among a thread's first `now` events are kept in order, each with the past after it.
-- Events that are not kept add nothing to the past
pub record KeepsMarks (journals : Journals) (thread now : ℕ) (marks : Marks) : Type 0 where
  pub threads : marks.threads ≡ length journals
  pub few : marks.threads ≤ MAX_THREADS
  pub rows : length marks.counts.items ≡ length marks.events.items * marks.threads
  pub rising : (i j sooner later : ℕ) → i < j → slice_get marks.events.items i ≡ Some sooner → slice_get marks.events.items j ≡ Some later → sooner < later
  pub made : (i event : ℕ) → slice_get marks.events.items i ≡ Some event → event < now
  pub all : (event : ℕ) → event < now → IsKept marks.events.items event ⊎ AddsNothing journals thread event
  pub pasts : (i event : ℕ) → slice_get marks.events.items i ≡ Some event → ArePastOf journals thread (suc event) (count_after marks i)
