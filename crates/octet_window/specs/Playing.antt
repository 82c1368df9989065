-- The threads make what is noted of them.
use Rattle.std.specs.Prelude.{◌≡◌, ◌≢◌, ℕ, List, [], ◌∷◌, ◌++◌, length, map}
use Rattle.octet_model.specs.declared.event.Event.{Event}
use Rattle.octet_model.specs.Machine.{Journals, journal_of, event_made, heap_after}
use Rattle.octet_model.specs.Plays.{operation_of}
use Rattle.octet_window.specs.declared.course.Step.{Step}
use Rattle.octet_window.specs.declared.notes.Note.{Note}
use Rattle.octet_window.specs.declared.notes.Notes.{Notes}
use Rattle.octet_window.specs.declared.refusal.Refusal.{Refusal}
use Rattle.octet_window.specs.declared.refusal.Refusal.TheVariants.{NoHistory, OutOfMemory}
use Rattle.octet_window.specs.Courses.{events_by, notes_of}
use Rattle.octet_window.specs.Noting.{notes_in, events_of, renamed_note, AreOf}
use Rattle.octet_window.specs.Histories.{noted, HasNoHistory}
use Rattle.octet_window.specs.Ordering.{Parts, accesses_in}
use Rattle.octet_window.specs.Values.{Fit}

-- each access is of one of these objects
abbrev pub AllOf : List ℕ → List Notes → Type 0
AllOf objects [] = Unit {0}
AllOf objects (notes ∷ threads) = AreOf objects (notes_in notes) × AllOf objects threads

-- the notes of all threads, with the places of their objects
abbrev pub all_renamed : List ℕ → List Notes → List (List Note)
all_renamed objects threads = map (λ notes. map (renamed_note objects) (notes_in notes)) threads

-- the journals have the accesses of the steps
abbrev pub HaveSteps : List Step → Journals → Type 0
HaveSteps steps journals = (thread : ℕ) → accesses_in (journal_of journals thread) ≡ accesses_in (events_by thread steps)

-- the journals have the accesses of all notes
abbrev pub HaveAll : List (List Note) → Journals → Type 0
HaveAll threads journals = (thread : ℕ) → accesses_in (journal_of journals thread) ≡ accesses_in (events_of (notes_of threads thread))

-- the thread has made this event, of which nothing is left where it is a mark
pub record AddsEvent (thread : ℕ) (event : Event) (run next : Parts) : Type 0 where
  pub starts : next.starts ≡ run.starts
  pub heap : next.heap ≡ heap_after (operation_of event) run.heap
  pub many : length next.journals ≡ length run.journals
  pub own : accesses_in (journal_of next.journals thread) ≡ accesses_in (journal_of run.journals thread) ++ accesses_in (event ∷ [])
  pub others : (other : ℕ) → other ≢ thread → accesses_in (journal_of next.journals other) ≡ accesses_in (journal_of run.journals other)

-- why an event is not made: it has not the value that its object has, or memory was refused
abbrev pub IsEventRefusal : List ℕ → Event → Refusal → Type 0
IsEventRefusal heap event NoHistory = event_made (operation_of event) heap ≢ event
IsEventRefusal heap event OutOfMemory = Unit {0}
IsEventRefusal heap event _ = ⊥

-- why steps are not made: they have not the values that their objects have, or memory was refused
abbrev pub IsMisfit : List Step → List ℕ → Refusal → Type 0
IsMisfit steps starts NoHistory = Fit steps starts → ⊥
IsMisfit steps starts OutOfMemory = Unit {0}
IsMisfit steps starts _ = ⊥

-- why threads do not make what is noted of them: no values of so many objects give it one history, or memory was refused
abbrev pub IsPlayRefusal : ℕ → List (List Note) → Refusal → Type 0
IsPlayRefusal objects threads NoHistory = (starts : List ℕ) → length starts ≡ objects → HasNoHistory starts (noted threads)
IsPlayRefusal objects threads OutOfMemory = Unit {0}
IsPlayRefusal objects threads _ = ⊥
