-- Which events of journals happen before which.
use Rattle.std.specs.Prelude.{◌≡◌, ◌≢◌, ℕ, suc, ◌<◌, ◌≤◌, ◌⊎◌, Bool, true, false, ◌||◌, IsTrue, List, [], ◌∷◌, ◌++◌, Option, Some, None, is_some, slice_get}
use Rattle.octet_model.specs.declared.event.Mark.TheVariants.{Join, Draw, Fence}
use Rattle.octet_model.specs.declared.event.Event.{Event}
use Rattle.octet_model.specs.declared.event.Event.TheVariants.{Read, Write, Update, Marked}
use Rattle.octet_model.specs.declared.event.Place.{Place}
use Rattle.octet_model.specs.Machine.{Journals, journal_of}

-- the event at a place
abbrev pub event_at : Journals → Place → Option Event
event_at journals place = slice_get (journal_of journals place.thread) place.event

-- a happens-before edge from the event at a to the event at b
pub data Edge (journals : Journals) (a b : Place) : Type 0 where
  -- each event to the next of its thread
  ProgramOrder : a.thread ≡ b.thread → suc a.event ≡ b.event → Edge journals a b
  -- the events of a thread below `upto` to a Join of them
  Joined : (upto : ℕ) → event_at journals b ≡ Some (Marked (Join a.thread upto)) → a.event < upto → Edge journals a b
  -- a Draw to each later Draw
  Drawn : (first then : ℕ) → event_at journals a ≡ Some (Marked (Draw first)) → event_at journals b ≡ Some (Marked (Draw then)) → first < then → Edge journals a b
  -- a Draw to each Fence that has seen it
  Fenced : (number upto : ℕ) → event_at journals a ≡ Some (Marked (Draw number)) → event_at journals b ≡ Some (Marked (Fence upto)) → number ≤ upto → Edge journals a b

-- the journals have an event at this place
abbrev pub IsEvent : Journals → Place → Type 0
IsEvent journals place = (event : Event) × (event_at journals place ≡ Some event)

-- each place of the list has an event, with an edge to the next place
abbrev pub IsPath : Journals → List Place → Type 0
IsPath journals [] = Unit {0}
IsPath journals (a ∷ []) = IsEvent journals a
IsPath journals (a ∷ b ∷ path) = IsEvent journals a × Edge journals a b × IsPath journals (b ∷ path)

-- a path of edges from a to b, by way of the events between them
pub record HappensBefore (journals : Journals) (a b : Place) : Type 0 where
  pub between : List Place
  pub is_path : IsPath journals (a ∷ (between ++ b ∷ []))

-- the object of an access
abbrev pub object_of : Event → Option ℕ
object_of (Read object value) = Some object
object_of (Write object value) = Some object
object_of (Update object before after) = Some object
object_of (Marked mark) = None

-- the test whether an event is an access
abbrev pub is_access : Event → Bool
is_access event = is_some (object_of event)

-- the test whether an event is a write or an update
abbrev pub is_write : Event → Bool
is_write (Write object value) = true
is_write (Update object before after) = true
is_write _ = false

-- two accesses by different threads, of one object, of which at least one writes
pub record Conflict (journals : Journals) (a b : Place) : Type 0 where
  pub first : Event
  pub second : Event
  pub object : ℕ
  pub is_first : event_at journals a ≡ Some first
  pub is_second : event_at journals b ≡ Some second
  pub by_others : a.thread ≢ b.thread
  pub of_one : object_of first ≡ Some object
  pub of_same : object_of second ≡ Some object
  pub one_writes : IsTrue (is_write first || is_write second)

-- ordered journals: of every two conflicting accesses one happens before the other
abbrev pub IsOrdered : Journals → Type 0
IsOrdered journals = (a b : Place) → Conflict journals a b → HappensBefore journals a b ⊎ HappensBefore journals b a
