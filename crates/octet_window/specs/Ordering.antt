-- A run whose threads make their accesses one after another, each after the joins that order it behind the earlier accesses
-- that it conflicts with.
use Rattle.std.specs.Prelude.{◌≡◌, ◌≢◌, ℕ, suc, ◌*◌, ◌<◌, ◌≤◌, ◌⊎◌, Bool, true, false, IsTrue, if◌then◌else◌, List, [], ◌∷◌, ◌++◌, length, Some}
use Rattle.octet_model.specs.declared.event.Event.{Event}
use Rattle.octet_model.specs.declared.event.Event.TheVariants.{Write, Update, Marked}
use Rattle.octet_model.specs.declared.event.Mark.{Mark}
use Rattle.octet_model.specs.declared.event.Mark.TheVariants.{Join}
use Rattle.octet_model.specs.declared.event.Place.{Place}
use Rattle.octet_model.specs.declared.limits.TheConstants.{MAX_THREADS, MAX_MARKS_BEFORE_ACCESS}
use Rattle.octet_model.specs.Machine.{Journals, journal_of, appended, heap_after}
use Rattle.octet_model.specs.HappensBefore.{event_at, is_write, object_of}
use Rattle.octet_model.specs.Frugal.{Accesses, IsPrivate, marks_at_end, marks_before}
use Rattle.octet_model.specs.Plays.{IsOneHistory, operation_of}
use Rattle.octet_model.specs.Validity.{IsMark}
use Rattle.octet_window.specs.declared.ordered.OrderedRun.{OrderedRun}
use Rattle.octet_window.specs.Tables.{cell}

-- a place
abbrev pub place : ℕ → ℕ → Place
place thread event = record { thread = thread; event = event }

-- the event at a place is an access of the object that writes
abbrev pub Writes : Journals → Place → ℕ → Type 0
Writes journals p object = (event : Event) × (event_at journals p ≡ Some event) × (object_of event ≡ Some object) × IsTrue (is_write event)

-- a count says of each object and each thread how many events the thread had made after its last access of this kind
pub record Counts (Is : Place → ℕ → Type 0) (counts : List ℕ) : Type 0 where
  pub past : (p : Place) (object : ℕ) → Is p object → p.event < cell counts object p.thread
  pub last : (object thread event : ℕ) → thread < MAX_THREADS → cell counts object thread ≡ suc event → Is (place thread event) object

-- the count that each thread has of each other one is that of a join
abbrev pub AreJoins : Journals → List ℕ → Type 0
AreJoins journals known = (thread from upto : ℕ) → from < MAX_THREADS → cell known thread from ≡ suc upto
    → (event : ℕ) × (event_at journals (place thread event) ≡ Some (Marked (Join from (suc upto))))

-- no mark stands before an access of an object that one thread has to itself, and few stand before any
pub record IsSparing (journals : Journals) : Type 0 where
  pub unmarked : (p : Place) (object : ℕ) → Accesses journals p object → IsPrivate journals object p.thread → marks_before journals p ≡ []
  pub few : (p : Place) (object : ℕ) → Accesses journals p object → length (marks_before journals p) ≤ MAX_MARKS_BEFORE_ACCESS

-- the starting values and the values of the objects, what the threads have made, and the counts that go with it
pub record Parts : Type 0 where
  pub starts : List ℕ
  pub heap : List ℕ
  pub journals : Journals
  pub known : List ℕ
  pub accessed : List ℕ
  pub written : List ℕ

abbrev pub parts_of : OrderedRun → Parts
parts_of run = record {
  starts = run.starts;
  heap = run.heap.items;
  journals = run.journals.items;
  known = run.known.counts.items;
  accessed = run.accessed.counts.items;
  written = run.written.counts.items;
}

-- what holds of the run at each moment
pub record IsOrdered (run : Parts) : Type 0 where
  pub threads : length run.journals ≤ MAX_THREADS
  pub objects : length run.heap ≡ length run.starts
  pub known_rows : length run.known ≡ MAX_THREADS * MAX_THREADS
  pub accessed_rows : length run.accessed ≡ MAX_THREADS * length run.starts
  pub written_rows : length run.written ≡ MAX_THREADS * length run.starts
  pub history : IsOneHistory run.starts run.journals run.heap 0
  pub sparing : IsSparing run.journals
  pub accesses : Counts (Accesses run.journals) run.accessed
  pub writes : Counts (Writes run.journals) run.written
  pub joins : AreJoins run.journals run.known
  pub marks : (thread event : ℕ) (mark : Mark) → event_at run.journals (place thread event) ≡ Some (Marked mark) → IsMark (length run.journals) thread mark

-- and between two accesses
pub record IsAtRest (run : Parts) : Type 0 where
  pub ordered : IsOrdered run
  pub none_after : (thread : ℕ) → marks_at_end (journal_of run.journals thread) ≡ []

-- how many events of a thread an access of the object has to come after, by whether it writes
abbrev pub needed : Parts → Bool → ℕ → ℕ → ℕ
needed run writes object from = if writes then cell run.accessed object from else cell run.written object from

-- the thread is about to access the object, and has made the joins of all threads below this one
pub record IsJoining (run : Parts) (thread object : ℕ) (writes : Bool) (from : ℕ) : Type 0 where
  pub ordered : IsOrdered run
  pub there : thread < length run.journals
  pub none_after : (other : ℕ) → other ≢ thread → marks_at_end (journal_of run.journals other) ≡ []
  pub few : length (marks_at_end (journal_of run.journals thread)) ≤ from
  pub fewer : thread < from → suc (length (marks_at_end (journal_of run.journals thread))) ≤ from
  pub shared : IsPrivate run.journals object thread → marks_at_end (journal_of run.journals thread) ≡ []
  pub joined : (other : ℕ) → other < from → other ≢ thread → needed run writes object other ≤ cell run.known thread other

-- the run after this event of the thread, before anything is counted
abbrev pub pushed : ℕ → Event → Parts → Parts
pushed thread event run = record run { journals = appended run.journals thread event }

-- the count of one row and column is another one, and no other count is
pub record Sets (row column count : ℕ) (counts next : List ℕ) : Type 0 where
  pub room : length next ≡ length counts
  pub here : cell next row column ≡ count
  pub others : (r c : ℕ) → c < MAX_THREADS → (r ≢ row) ⊎ (c ≢ column) → cell next r c ≡ cell counts r c

-- that is so where it writes, and else no count is another one
abbrev pub SetsIf : Bool → ℕ → ℕ → ℕ → List ℕ → List ℕ → Type 0
SetsIf true row column count counts next = Sets row column count counts next
SetsIf false row column count counts next = next ≡ counts

-- the last event of the thread is counted as an access of the object
pub record CountsLast (thread object : ℕ) (writes : Bool) (run next : Parts) : Type 0 where
  pub starts : next.starts ≡ run.starts
  pub heap : next.heap ≡ run.heap
  pub journals : next.journals ≡ run.journals
  pub known : next.known ≡ run.known
  pub accessed : Sets object thread (length (journal_of run.journals thread)) run.accessed next.accessed
  pub written : SetsIf writes object thread (length (journal_of run.journals thread)) run.written next.written

-- the accesses of a journal
abbrev pub accesses_in : List Event → List Event
accesses_in [] = []
accesses_in (Marked mark ∷ journal) = accesses_in journal
accesses_in (event ∷ journal) = event ∷ accesses_in journal

-- the threads have made no further access
pub record Keeps (run next : Parts) : Type 0 where
  pub starts : next.starts ≡ run.starts
  pub heap : next.heap ≡ run.heap
  pub many : length next.journals ≡ length run.journals
  pub each : (thread : ℕ) → accesses_in (journal_of next.journals thread) ≡ accesses_in (journal_of run.journals thread)

-- the thread has made this access, and no other was made
pub record MakesAccess (thread : ℕ) (event : Event) (run next : Parts) : Type 0 where
  pub starts : next.starts ≡ run.starts
  pub heap : next.heap ≡ heap_after (operation_of event) run.heap
  pub many : length next.journals ≡ length run.journals
  pub own : accesses_in (journal_of next.journals thread) ≡ accesses_in (journal_of run.journals thread) ++ event ∷ []
  pub others : (other : ℕ) → other ≢ thread → accesses_in (journal_of next.journals other) ≡ accesses_in (journal_of run.journals other)

-- an event that writes an object, of which there are so many
abbrev pub WritesBelow : ℕ → Event → Type 0
WritesBelow objects (Write object value) = object < objects
WritesBelow objects (Update object before after) = object < objects
WritesBelow objects _ = Unit {0}
