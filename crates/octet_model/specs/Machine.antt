-- The plain one-thread machine: one heap, one journal per thread, and one step of one thread at a time.
use Rattle.std.specs.Prelude.{◌≡◌, ℕ, suc, ◌<◌, Bool, true, false, ◌==◌, ◌&&◌, nat_lt, nat_le, IsTrue, List, [], ◌∷◌, ◌++◌, length, get_or, map, slice_index, slice_set}
use Rattle.octet_model.specs.declared.event.Mark.{Mark}
use Rattle.octet_model.specs.declared.event.Mark.TheVariants.{Join, Draw, Fence}
use Rattle.octet_model.specs.declared.event.Event.{Event}
use Rattle.octet_model.specs.declared.event.Event.TheVariants.{Read, Write, Update, Marked}

-- the journal of each thread
abbrev pub Journals : Type 0
Journals = List (List Event)

-- the journal of a thread, empty for a thread that is not there
abbrev pub journal_of : Journals → ℕ → List Event
journal_of journals thread = get_or journals thread []

-- a state of the machine: the heap, the journals, and the number of draws made
pub record PlainState : Type 0 where
  pub heap : List ℕ
  pub journals : Journals
  pub draws : ℕ

-- an empty journal for each thread
abbrev pub no_events : {A : Type 0} → List A → Journals
no_events threads = map (λ thread. []) threads

-- the state with this heap, with no event and no draw
abbrev pub starting_state : {A : Type 0} → List ℕ → List A → PlainState
starting_state heap threads = record { heap = heap; journals = no_events threads; draws = 0 }

-- the operation of one step: a mark, a read of an object, a write of a value to an object,
-- or an update that changes the value of an object
pub data Operation : Type 0 where
  MakeMark : (mark : Mark) → Operation
  MakeRead : (object : ℕ) → Operation
  MakeWrite : (object value : ℕ) → Operation
  MakeUpdate : (object : ℕ) (change : ℕ → ℕ) → Operation

-- what a thread does next: it wants an operation, is through, or has nothing that fits
pub data Next : Type 0 where
  Wants : (operation : Operation) → Next
  Finished : Next
  NothingFits : Next

-- what is next for each thread, by its journal so far
abbrev pub Behavior : Type 0
Behavior = ℕ → List Event → Next

-- the test whether an operation may be made now. A Join waits until its thread has made `upto` events.
-- A Draw waits for its turn, a Fence until its number of draws is made. An access waits for nothing
abbrev pub is_enabled : PlainState → Operation → Bool
is_enabled s (MakeMark (Join from upto)) = nat_le upto (length (journal_of s.journals from))
is_enabled s (MakeMark (Draw number)) = number == suc s.draws
is_enabled s (MakeMark (Fence number)) = nat_le number s.draws
is_enabled s (MakeRead object) = true
is_enabled s (MakeWrite object value) = true
is_enabled s (MakeUpdate object change) = true

-- the event that an operation makes. A read takes its value from the heap, an update its value before
abbrev pub event_made : Operation → List ℕ → Event
event_made (MakeMark mark) heap = Marked mark
event_made (MakeRead object) heap = Read object (slice_index heap object)
event_made (MakeWrite object value) heap = Write object value
event_made (MakeUpdate object change) heap = Update object (slice_index heap object) (change (slice_index heap object))

-- the heap after an operation. A write or an update changes the value of its object
abbrev pub heap_after : Operation → List ℕ → List ℕ
heap_after (MakeWrite object value) heap = slice_set heap object value
heap_after (MakeUpdate object change) heap = slice_set heap object (change (slice_index heap object))
heap_after _ heap = heap

-- the number of draws after an operation
abbrev pub draws_after : Operation → ℕ → ℕ
draws_after (MakeMark (Draw number)) draws = suc draws
draws_after _ draws = draws

-- the journals with one more event at the end of a thread's journal
abbrev pub appended : Journals → ℕ → Event → Journals
appended journals thread event = slice_set journals thread (journal_of journals thread ++ event ∷ [])

-- the state after an operation of the thread
abbrev pub performed : PlainState → ℕ → Operation → PlainState
performed s thread operation = record {
  heap = heap_after operation s.heap;
  journals = appended s.journals thread (event_made operation s.heap);
  draws = draws_after operation s.draws;
}

-- what a thread does next in this state
abbrev pub next_of : Behavior → PlainState → ℕ → Next
next_of behavior s thread = behavior thread (journal_of s.journals thread)

-- the test whether what is next is an operation that may be made now
abbrev pub may_proceed : PlainState → Next → Bool
may_proceed s (Wants operation) = is_enabled s operation
may_proceed s _ = false

-- the test whether the thread is there and its next operation may be made now
abbrev pub may_step : Behavior → PlainState → ℕ → Bool
may_step behavior s thread = nat_lt thread (length s.journals) && may_proceed s (next_of behavior s thread)

-- the state after what is next for the thread. Only an operation changes the state
abbrev pub proceeded : PlainState → ℕ → Next → PlainState
proceeded s thread (Wants operation) = performed s thread operation
proceeded s thread _ = s

-- the state after a step of the thread. A step that may not be made changes nothing
abbrev pub step : Behavior → PlainState → ℕ → PlainState
step behavior s thread = elim (may_step behavior s thread) [ true ↦ proceeded s thread (next_of behavior s thread) | false ↦ s ]

-- the state after the steps of these threads, one after another
abbrev pub after : Behavior → PlainState → List ℕ → PlainState
after behavior s [] = s
after behavior s (thread ∷ order) = after behavior (step behavior s thread) order

-- a front is a list of threads whose steps may be made one after another
abbrev pub IsFront : Behavior → PlainState → List ℕ → Type 0
IsFront behavior s [] = Unit {0}
IsFront behavior s (thread ∷ order) = IsTrue (may_step behavior s thread) × IsFront behavior (step behavior s thread) order

-- every thread is through
abbrev pub AllFinished : Behavior → PlainState → Type 0
AllFinished behavior s = (thread : ℕ) → thread < length s.journals → next_of behavior s thread ≡ Finished

-- an order is a front after which every thread is through
abbrev pub IsOrder : Behavior → PlainState → List ℕ → Type 0
IsOrder behavior s order = IsFront behavior s order × AllFinished behavior (after behavior s order)
