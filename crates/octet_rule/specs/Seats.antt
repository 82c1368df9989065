-- What a clause says of words and seats.
use Rattle.std.specs.Prelude.{◌≡◌, ℕ, ◌<◌, List, [], map, length, slice_index_or}
use Rattle.octet_state.specs.declared.phase.Due.TheVariants.{Nothing}
use Rattle.octet_state.specs.declared.phase.Phase.TheVariants.{Off}
use Rattle.octet_state.specs.State.{ProtocolState, thread_of, unstarted, opening}
use Rattle.octet_state.specs.Steps.{Kind, ThreadStep, IsRun}
use Rattle.octet_state.specs.Soundness.{IsSound}
use Rattle.octet_seats.specs.Rows.{AreInRow}
use Rattle.octet_rule.specs.Views.{SeatView, Left, left_of}
use Rattle.octet_rule.specs.Runs.{state_after, steps_of, all_off}
use Rattle.octet_rule.specs.Rule.{Steps}
use Rattle.octet_rule.specs.Conditions.{IsResting}
use Rattle.octet_rule.specs.declared.words.Seat.{Seat}
use Rattle.octet_rule.specs.declared.words.Words.{Words}

-- the view of a seat
abbrev pub view : Seat → SeatView
view seat = seat.inner.me.0

-- the number of threads that the words are of
abbrev pub threads_of : Words → ℕ
threads_of words = words.table.shared.key.threads

-- the number of objects that the words are of
abbrev pub objects_of : Words → ℕ
objects_of words = words.objects

-- the values that the words' cells had at first
abbrev pub starts_of : Words → List ℕ
starts_of words = words.table.shared.key.starts.value

-- the seat belongs to these words
abbrev pub BelongsTo : Words → Seat → Type 0
BelongsTo words seat = (seat.inner.table_id ≡ words.table.shared.table_id) × ((view seat).threads ≡ words.threads)

-- the seat belongs to these words, all seats are made, and none has joined
abbrev pub IsSeatOf : Words → Seat → Type 0
IsSeatOf words seat = (seat.inner.table_id ≡ words.table.shared.table_id) × ((view seat).threads ≡ words.threads)
    × ((view seat).number ≡ 0 → (view seat).seats_made ≡ words.threads) × ((view seat).number ≡ 0 → (view seat).joined ≡ [])

-- the seat is one of these words, and its thread owes nothing
pub record CanStep (words : Words) (seat : Seat) : Type 0 where
  pub own : IsSeatOf words seat
  pub owes_nothing : (view seat).thread.due ≡ Nothing

-- the seat took this step, which was told this word, and is still one of these words
pub record TakesStep (words : Words) (k : Kind) (before : Seat) (told : ℕ) (after : Seat) : Type 0 where
  pub own : IsSeatOf words after
  pub step : Steps k (view before) told (view after)

-- the seat is that of this thread, which has taken no step
abbrev pub IsFresh : ℕ → Seat → Type 0
IsFresh thread seat = ((view seat).number ≡ thread) × ((view seat).thread ≡ unstarted) × ((view seat).journal ≡ []) × ((view seat).trail ≡ [])

-- the seat is that of this thread, which is off or blocked
abbrev pub RestsAs : ℕ → Seat → Type 0
RestsAs thread seat = ((view seat).number ≡ thread) × IsResting (view seat).thread.phase

-- each seat is that of its thread, and has taken no step
abbrev pub EachFresh : Words → List Seat → Type 0
EachFresh words seats = (thread : ℕ) (none : Seat) → thread < length seats → IsSeatOf words (slice_index_or seats thread none) × IsFresh thread (slice_index_or seats thread none)

-- each seat is that of its thread, which is off or blocked
abbrev pub EachRests : Words → List Seat → Type 0
EachRests words seats = (thread : ℕ) (none : Seat) → thread < length seats → IsSeatOf words (slice_index_or seats thread none) × RestsAs thread (slice_index_or seats thread none)

-- the seat, while others join, is that of this thread, which is off or blocked
abbrev pub IsRestingSeat : Words → ℕ → Seat → Type 0
IsRestingSeat words thread seat = BelongsTo words seat × RestsAs thread seat

-- the seats, while others join, are those of the threads from this one on, in order, each off or blocked
abbrev pub AreResting : Words → ℕ → List Seat → Type 0
AreResting words thread seats = AreInRow (IsRestingSeat words) thread seats

-- the number of a seat that joins thread 0's, and what it leaves
abbrev pub left_by : Seat → ℕ × Left
left_by seat = ((view seat).number, left_of (view seat))

-- the trail of each seat is what its thread did in this run
abbrev pub EachFollows : List ℕ → List ThreadStep → List Seat → Type 0
EachFollows starts run seats = (thread : ℕ) (none : Seat) → thread < length seats → steps_of thread (opening (length seats) starts) run ≡ (view (slice_index_or seats thread none)).trail

-- the cells have these values after a run of the protocol, in which each thread took the steps of its seat's trail
-- and no others. With every thread off, the state after the run is sound, with the seats' journals
pub record Closes (starts : List ℕ) (seats : List Seat) (values : List ℕ) : Type 0 where
  pub run : List ThreadStep
  pub is_run : IsRun (opening (length seats) starts) run
  pub trails : EachFollows starts run seats
  pub last : ProtocolState
  pub after : last ≡ all_off (state_after (length seats) starts run)
  pub sound : IsSound last
  pub began : last.starts ≡ starts
  pub off : (thread : ℕ) → (thread_of last thread).phase ≡ Off
  pub cells : last.cells ≡ values
  pub journals : last.journals ≡ map (λ seat. (view seat).journal) seats
