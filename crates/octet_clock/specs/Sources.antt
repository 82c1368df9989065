-- What a mark takes into the past of its thread.
use Rattle.std.specs.Prelude.{◌≡◌, ℕ, zero, suc, ◌≤◌, ◌⊎◌, List, [], ◌∷◌, ◌++◌, length, Option, Some, None, slice_get}
use Rattle.octet_model.specs.declared.event.Event.{Event}
use Rattle.octet_model.specs.declared.event.Event.TheVariants.{Marked}
use Rattle.octet_model.specs.declared.event.Mark.{Mark}
use Rattle.octet_model.specs.declared.event.Mark.TheVariants.{Join, Draw, Fence}
use Rattle.octet_model.specs.declared.event.Place.{Place}
use Rattle.octet_model.specs.Machine.{Journals}
use Rattle.octet_model.specs.HappensBefore.{event_at}
use Rattle.octet_model.specs.Past.{InPast}
use Rattle.octet_clock.specs.declared.marks.Marks.{Marks}
use Rattle.octet_clock.specs.declared.sources.Prefix.{Prefix}
use Rattle.octet_clock.specs.Past.{KeepsMarks}
use Rattle.octet_clock.specs.Play.{made_by, draws_by, IsWholePlay, IsStep}
use Rattle.octet_replay.specs.Places.{FitInPlaces}

-- the next step of a whole play makes this event
pub record IsNextStep (journals : Journals) (play : List ℕ) (index thread : ℕ) (event : Event) : Type 0 where
  pub places : FitInPlaces journals
  pub whole : IsWholePlay journals play
  pub step : IsStep journals play index thread event

-- the last of a thread's first events is the draw of this number
pub record IsDrawn (journals : Journals) (play : List ℕ) (index number : ℕ) (first : Prefix) : Type 0 where
  pub event : ℕ
  pub counted : first.count ≡ suc event
  pub drawn : event_at journals (record { thread = first.thread; event = event }) ≡ Some (Marked (Draw number))
  pub made : first.count ≤ made_by play index first.thread

-- all draws made are kept, in order
pub record KeepsDraws (journals : Journals) (play : List ℕ) (index : ℕ) (draws : List Prefix) : Type 0 where
  pub counts : length draws ≡ draws_by journals play index
  pub each : (place : ℕ) (first : Prefix) → slice_get draws place ≡ Some first → IsDrawn journals play index (suc place) first

-- the marks of all threads are kept
pub record KeepsAllMarks (journals : Journals) (play : List ℕ) (index : ℕ) (marks : List Marks) : Type 0 where
  pub as_many : length marks ≡ length journals
  pub each : (thread : ℕ) (one : Marks) → slice_get marks thread ≡ Some one → KeepsMarks journals thread (made_by play index thread) one

-- the next event of a thread takes in the past of these first events, and nothing else
pub record IsSource (journals : Journals) (play : List ℕ) (index thread : ℕ) (first : Prefix) : Type 0 where
  pub made : first.count ≤ made_by play index first.thread
  pub taken : (place : Place) → InPast journals first.thread first.count place → InPast journals thread (suc (made_by play index thread)) place
  pub only : (place : Place) → InPast journals thread (suc (made_by play index thread)) place
      → InPast journals thread (made_by play index thread) place
      ⊎ (InPast journals first.thread first.count place ⊎ (place ≡ record { thread = thread; event = made_by play index thread }))

-- the next event of a thread takes in the past of these first events, or nothing
abbrev pub TakesIn : Journals → List ℕ → ℕ → ℕ → Option Prefix → Type 0
TakesIn journals play index thread (Some first) = IsSource journals play index thread first
TakesIn journals play index thread None = (place : Place) → InPast journals thread (suc (made_by play index thread)) place
    → InPast journals thread (made_by play index thread) place ⊎ (place ≡ record { thread = thread; event = made_by play index thread })

-- the draw of a number, if it is kept
abbrev pub draw_of : List Prefix → ℕ → Option Prefix
draw_of draws zero = None
draw_of draws (suc place) = slice_get draws place

-- the draws with one more, if the mark is a draw, as the events of its thread up to it
abbrev pub draws_with : List Prefix → Mark → Prefix → List Prefix
draws_with draws (Draw number) upto = draws ++ upto ∷ []
draws_with draws (Join from number) upto = draws
draws_with draws (Fence number) upto = draws
