-- Plays that make every event of journals, and where their steps stand.
use Rattle.std.specs.Prelude.{◌≡◌, ℕ, ◌<◌, ◌==◌, List, [], length, take, Some, slice_index, count_by}
use Rattle.octet_model.specs.declared.event.Event.{Event}
use Rattle.octet_model.specs.declared.event.Place.{Place}
use Rattle.octet_model.specs.Machine.{Journals, journal_of, starting_state, IsFront}
use Rattle.octet_model.specs.HappensBefore.{event_at}
use Rattle.octet_model.specs.Plays.{by_journals, state_after_play}

-- the number of steps of a thread before an index
abbrev pub made_by : List ℕ → ℕ → ℕ → ℕ
made_by play index thread = count_by (λ step. step == thread) (take index play)

-- the place of the event that a step makes
abbrev pub step_place : List ℕ → ℕ → Place
step_place play index = record { thread = slice_index play index; event = made_by play index (slice_index play index) }

-- the event at the place is made by one of the steps before an index
abbrev pub IsMadeBefore : List ℕ → ℕ → Place → Type 0
IsMadeBefore play index place = place.event < made_by play index place.thread

-- the play makes every event of the journals, whatever its reads give
pub record IsWholePlay (journals : Journals) (play : List ℕ) : Type 0 where
  pub is_play : IsFront (by_journals journals) (starting_state [] journals) play
  pub makes : (thread : ℕ) → made_by play (length play) thread ≡ length (journal_of journals thread)

-- the number of draws that the steps before an index make
abbrev pub draws_by : Journals → List ℕ → ℕ → ℕ
draws_by journals play index = (state_after_play [] journals (take index play)).draws

-- the step at an index is the thread's and makes this event
pub record IsStep (journals : Journals) (play : List ℕ) (index thread : ℕ) (event : Event) : Type 0 where
  pub within : index < length play
  pub is_of : slice_index play index ≡ thread
  pub makes : event_at journals (record { thread = thread; event = made_by play index thread }) ≡ Some event
