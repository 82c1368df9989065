-- The first events of each thread, by how many of each are meant.
use Rattle.std.specs.Prelude.{ℕ, ◌<◌, ◌≤◌, List, [], ◌∷◌, length, take, slice_index}
use Rattle.octet_model.specs.declared.event.Place.{Place}
use Rattle.octet_model.specs.Machine.{Journals, journal_of}
use Rattle.octet_model.specs.HappensBefore.{Edge}

-- the first events of each journal, up to its count
abbrev pub first_events : List ℕ → Journals → Journals
first_events counts [] = []
first_events [] (journal ∷ journals) = [] ∷ first_events [] journals
first_events (count ∷ counts) (journal ∷ journals) = take count journal ∷ first_events counts journals

-- each count is of events that are there, and an event with an edge to one of these is one of them
pub record IsClosed (journals : Journals) (counts : List ℕ) : Type 0 where
  pub within : (thread : ℕ) → slice_index counts thread ≤ length (journal_of journals thread)
  pub by : (a b : Place) → Edge journals a b → b.event < slice_index counts b.thread → a.event < slice_index counts a.thread
