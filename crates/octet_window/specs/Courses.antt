-- The events that are noted of all threads, one after another, in an order that their marks allow.
use Rattle.std.specs.Prelude.{◌≡◌, ℕ, ◌<◌, ◌≤◌, true, false, ◌==◌, if◌then◌else◌, List, [], ◌∷◌, length, take, get_or}
use Rattle.octet_model.specs.declared.event.Event.{Event}
use Rattle.octet_model.specs.declared.event.Event.TheVariants.{Read}
use Rattle.octet_model.specs.Plays.{IsOneHistory}
use Rattle.octet_window.specs.declared.course.Step.{Step}
use Rattle.octet_window.specs.declared.notes.Note.{Note}
use Rattle.octet_window.specs.declared.refusal.Refusal.{Refusal}
use Rattle.octet_window.specs.declared.refusal.Refusal.TheVariants.{NoHistory, OutOfMemory}
use Rattle.octet_window.specs.Noting.{events_of, AllIn, IsEventIn}
use Rattle.octet_window.specs.Histories.{noted, may_be_made, ComesTo, HasHistory, HasNoHistory}
use Rattle.octet_window.specs.Values.{behind, Fit}

-- the notes of a thread
abbrev pub notes_of : List (List Note) → ℕ → List Note
notes_of threads thread = get_or threads thread []

-- a note that is not there
abbrev pub no_note : Note
no_note = record { event = Read 0 0; region = false }

-- the next event of a thread that has made so many of each
abbrev pub event_next : List (List Note) → List ℕ → ℕ → Event
event_next threads made thread = (get_or (notes_of threads thread) (get_or made thread 0) no_note).event

-- the thread has an event left, which may be made
abbrev pub MayGoOn : List (List Note) → List ℕ → ℕ → ℕ → Type 0
MayGoOn threads made draws thread = (get_or made thread 0 < length (notes_of threads thread)) × (may_be_made made draws (event_next threads made thread) ≡ true)

-- no thread has one
abbrev pub NoneGoesOn : List (List Note) → List ℕ → ℕ → Type 0
NoneGoesOn threads made draws = (thread : ℕ) → thread < length threads → MayGoOn threads made draws thread → ⊥

-- each thread has made all that is noted of it
abbrev pub AllMade : List (List Note) → List ℕ → Type 0
AllMade threads made = (thread : ℕ) → thread < length threads → length (notes_of threads thread) ≤ get_or made thread 0

-- the events of a thread among steps
abbrev pub events_by : ℕ → List Step → List Event
events_by thread [] = []
events_by thread (step ∷ steps) = if step.thread == thread then step.event ∷ events_by thread steps else events_by thread steps

-- each step is of one of so many threads, and accesses one of so many objects, if any
abbrev pub AreSteps : ℕ → ℕ → List Step → Type 0
AreSteps objects threads [] = Unit {0}
AreSteps objects threads (step ∷ steps) = (step.thread < threads) × IsEventIn objects step.event × AreSteps objects threads steps

-- the steps are those of the first notes of each thread, so many, in an order that the marks allow: from all values that fit
-- them they come to there, and they fit each history
pub record IsCourse (threads : List (List Note)) (steps : List Step) (made : List ℕ) (draws : ℕ) : Type 0 where
  pub counted : length made ≡ length threads
  pub each : (thread : ℕ) → events_by thread steps ≡ events_of (take (get_or made thread 0) (notes_of threads thread))
  pub inside : (objects : ℕ) → AllIn objects threads → AreSteps objects (length threads) steps
  pub comes : (values : List ℕ) → Fit steps values → ComesTo values (noted threads) made draws (behind steps values)
  pub fits : (values last : List ℕ) (number : ℕ) → IsOneHistory values (noted threads) last number → Fit steps values

-- the steps are those of all notes
pub record AreAllSteps (threads : List (List Note)) (steps : List Step) : Type 0 where
  pub each : (thread : ℕ) → events_by thread steps ≡ events_of (notes_of threads thread)
  pub inside : (objects : ℕ) → AllIn objects threads → AreSteps objects (length threads) steps
  pub history : (values : List ℕ) → Fit steps values → HasHistory values (noted threads)
  pub fits : (values last : List ℕ) (number : ℕ) → IsOneHistory values (noted threads) last number → Fit steps values

-- why there are no such steps: no values at all give what is noted one history, or memory was refused
abbrev pub IsStuck : List (List Note) → Refusal → Type 0
IsStuck threads NoHistory = (values : List ℕ) → HasNoHistory values (noted threads)
IsStuck threads OutOfMemory = Unit {0}
IsStuck threads _ = ⊥
