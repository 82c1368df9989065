-- What a clause says of words, seats and players.
use Rattle.std.specs.Prelude.{◌≡◌, ℕ, ◌<◌, List, [], map, length, slice_index_or}
use Rattle.octet_model.specs.declared.script.Script.{Script}
use Rattle.octet_model.specs.declared.log.Log.{Log}
use Rattle.octet_seats.specs.Rows.{AreInRow}
use Rattle.octet_parallel.specs.State.{FieldState, unbegun, opening}
use Rattle.octet_parallel.specs.Soundness.{IsSoundField}
use Rattle.octet_parallel.specs.Views.{PlayerView, Left, left_of}
use Rattle.octet_parallel.specs.Runs.{PlayerStep, IsRun, field_after, steps_of}
use Rattle.octet_parallel.specs.declared.words.Seat.{Seat}
use Rattle.octet_parallel.specs.declared.words.Words.{Words}

-- the view of a seat
abbrev pub view : Seat → PlayerView
view seat = seat.inner.me.0

-- the script that the words are of
abbrev pub script_of : Words → Script
script_of words = words.table.shared.key.script.value

-- the log that the words are of
abbrev pub log_of : Words → Log
log_of words = words.table.shared.key.log.value

-- the seat belongs to these words
abbrev pub BelongsTo : Words → Seat → Type 0
BelongsTo words seat = (seat.inner.table_id ≡ words.table.shared.table_id) × ((view seat).script ≡ script_of words) × ((view seat).log ≡ log_of words)

-- the seat belongs to these words, all seats are made, and none has joined
abbrev pub IsSeatOf : Words → Seat → Type 0
IsSeatOf words seat = BelongsTo words seat × ((view seat).number ≡ 0 → (view seat).players_made ≡ words.players) × ((view seat).number ≡ 0 → (view seat).joined ≡ [])

-- the seat is that of this player, which has taken no step
abbrev pub IsFresh : ℕ → Seat → Type 0
IsFresh number seat = ((view seat).number ≡ number) × ((view seat).player ≡ unbegun) × ((view seat).trail ≡ [])

-- each seat is that of its player, which has taken no step
abbrev pub EachFresh : Words → List Seat → Type 0
EachFresh words seats = (number : ℕ) (none : Seat) → number < length seats → IsSeatOf words (slice_index_or seats number none) × IsFresh number (slice_index_or seats number none)

-- each seat of these words is that of its player
abbrev pub EachOf : Words → List Seat → Type 0
EachOf words seats = (number : ℕ) (none : Seat) → number < length seats → IsSeatOf words (slice_index_or seats number none) × ((view (slice_index_or seats number none)).number ≡ number)

-- the seat, made while more are to come, is that of this player and has taken no step
abbrev pub IsFreshSeat : Words → ℕ → Seat → Type 0
IsFreshSeat words number seat = BelongsTo words seat × IsFresh number seat

-- the seat, while others join, is that of this player
abbrev pub IsNumberedSeat : Words → ℕ → Seat → Type 0
IsNumberedSeat words number seat = BelongsTo words seat × ((view seat).number ≡ number)

-- the seats, while others join, are those of the players from this one on, in order
abbrev pub AreNumbered : Words → ℕ → List Seat → Type 0
AreNumbered words number seats = AreInRow (IsNumberedSeat words) number seats

-- the number of a seat that joins the first one, and what it leaves
abbrev pub left_by : Seat → ℕ × Left
left_by seat = ((view seat).number, left_of (view seat))

-- the trail of each seat is what its player did in this run
abbrev pub EachFollows : Script → Log → List PlayerStep → List Seat → Type 0
EachFollows script log run seats = (number : ℕ) (none : Seat) → number < length seats → steps_of number script log run ≡ (view (slice_index_or seats number none)).trail

-- the cells have these values after a run, in which each player took the steps of its seat's trail and no others.
-- The state after the run is sound, and its players are those of the seats
pub record Closes (script : Script) (log : Log) (seats : List Seat) (values : List ℕ) : Type 0 where
  pub run : List PlayerStep
  pub is_run : IsRun (opening script log) run
  pub trails : EachFollows script log run seats
  pub last : FieldState
  pub after : last ≡ field_after script log run
  pub sound : IsSoundField last
  pub is_script : last.script ≡ script
  pub is_log : last.log ≡ log
  pub players : last.players ≡ map (λ seat. (view seat).player) seats
  pub cells : last.cells ≡ values
