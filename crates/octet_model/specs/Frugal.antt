-- Which marks journals may have.
use Rattle.std.specs.Prelude.{◌≡◌, ◌≢◌, ℕ, ◌≤◌, ◌⊎◌, List, [], ◌∷◌, ◌++◌, length, take, Some}
use Rattle.octet_model.specs.declared.event.Mark.{Mark}
use Rattle.octet_model.specs.declared.event.Mark.TheVariants.{Join}
use Rattle.octet_model.specs.declared.event.Event.{Event}
use Rattle.octet_model.specs.declared.event.Event.TheVariants.{Read, Write, Update, Marked}
use Rattle.octet_model.specs.declared.event.Place.{Place}
use Rattle.octet_model.specs.declared.limits.TheConstants.{MAX_MARKS_BEFORE_ACCESS}
use Rattle.octet_model.specs.Machine.{Journals, journal_of}
use Rattle.octet_model.specs.HappensBefore.{event_at, object_of}

-- the marks after the last access of a journal.
-- Without an access, they are the marks given and all marks of the journal
abbrev pub marks_since : List Mark → List Event → List Mark
marks_since marks [] = marks
marks_since marks (Read object value ∷ journal) = marks_since [] journal
marks_since marks (Write object value ∷ journal) = marks_since [] journal
marks_since marks (Update object before after ∷ journal) = marks_since [] journal
marks_since marks (Marked mark ∷ journal) = marks_since (marks ++ mark ∷ []) journal

-- the marks after the last access of a journal
abbrev pub marks_at_end : List Event → List Mark
marks_at_end journal = marks_since [] journal

-- the marks directly before the event at a place
abbrev pub marks_before : Journals → Place → List Mark
marks_before journals place = marks_at_end (take place.event (journal_of journals place.thread))

-- the event at a place is an access of the object
abbrev pub Accesses : Journals → Place → ℕ → Type 0
Accesses journals place object = (event : Event) × (event_at journals place ≡ Some event) × (object_of event ≡ Some object)

-- all accesses of the object are by this thread
abbrev pub IsPrivate : Journals → ℕ → ℕ → Type 0
IsPrivate journals object thread = (place : Place) → Accesses journals place object → place.thread ≡ thread

-- no access of the object stands earlier in the journal of this thread
abbrev pub IsFirstOf : Journals → Place → ℕ → Type 0
IsFirstOf journals place object = (earlier : Place) → earlier.thread ≡ place.thread → Accesses journals earlier object → place.event ≤ earlier.event

-- the only mark before this access is a Join of thread 0.
-- The access is another thread's, and is its first of the object
pub record IsFirstJoin (journals : Journals) (place : Place) (object : ℕ) : Type 0 where
  pub upto : ℕ
  pub not_zero : place.thread ≢ 0
  pub is_first : IsFirstOf journals place object
  pub one_join : marks_before journals place ≡ Join 0 upto ∷ []

-- frugal journals have no mark where none is needed, and few before an access
pub record IsFrugal (journals : Journals) : Type 0 where
  -- an access of an object that one thread has to itself has no mark before it.
  -- The one exception is a Join of thread 0 before the first such access
  pub unmarked : (place : Place) (object : ℕ) → Accesses journals place object → IsPrivate journals object place.thread
      → (marks_before journals place ≡ []) ⊎ IsFirstJoin journals place object
  pub few : (place : Place) (object : ℕ) → Accesses journals place object → length (marks_before journals place) ≤ MAX_MARKS_BEFORE_ACCESS
  -- no mark stands after the last access of its journal, nor in a journal without accesses
  pub none_after : (thread : ℕ) → marks_at_end (journal_of journals thread) ≡ []
