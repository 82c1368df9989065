-- How objects are used, as long as nothing conflicts.
use Rattle.std.specs.Prelude.{◌≡◌, ◌≢◌, ℕ, ◌<◌, Bool, true, false, List, length, get_or, Some, slice_get}
use Rattle.octet_model.specs.declared.event.Event.{Event}
use Rattle.octet_model.specs.declared.event.Place.{Place}
use Rattle.octet_model.specs.Machine.{Journals}
use Rattle.octet_model.specs.HappensBefore.{object_of, is_write, Conflict}
use Rattle.octet_clock.specs.declared.sharing.Sharing.{Sharing}
use Rattle.octet_clock.specs.declared.sharing.Sharing.TheVariants.{Unused, OwnedBy, ReadShared}

-- the use of an object, which is none where nothing is kept of the object
abbrev pub sharing_of : List Sharing → ℕ → Sharing
sharing_of objects object = get_or objects object Unused

-- the use of an object allows an access by this thread, a write or a read, among its accesses
abbrev pub Allows : Sharing → ℕ → Bool → Type 0
Allows Unused thread writing = ⊥
Allows (OwnedBy owner written) thread writing = (thread ≡ owner) × (writing ≡ true → written ≡ true)
Allows ReadShared thread writing = writing ≡ false

-- the use after allows this one access more, and all that the use before allowed
pub record AllowsMore (before : Sharing) (thread : ℕ) (writing : Bool) (after : Sharing) : Type 0 where
  pub kept : (other : ℕ) (writes : Bool) → Allows before other writes → Allows after other writes
  pub added : Allows after thread writing

-- the list has the use of the object, and all uses are as before
pub record HasRoom (before : List Sharing) (object : ℕ) (after : List Sharing) : Type 0 where
  pub there : object < length after
  pub same : (other : ℕ) → sharing_of after other ≡ sharing_of before other

-- an access of the object was taken in
pub record TakesAccess (before : List Sharing) (thread object : ℕ) (writing : Bool) (after : List Sharing) : Type 0 where
  pub here : AllowsMore (sharing_of before object) thread writing (sharing_of after object)
  pub others : (other : ℕ) → other ≢ object → sharing_of after other ≡ sharing_of before other

-- the event is no access, or the use of its object allows it
abbrev pub IsAllowed : List Sharing → ℕ → Event → Type 0
IsAllowed objects thread event = (object : ℕ) → object_of event ≡ Some object → Allows (sharing_of objects object) thread (is_write event)

-- all events that were allowed before are allowed after
abbrev pub KeepsAllowed : List Sharing → List Sharing → Type 0
KeepsAllowed before after = (thread : ℕ) (event : Event) → IsAllowed before thread event → IsAllowed after thread event

-- an event was taken in
pub record TakesEvent (before : List Sharing) (thread : ℕ) (event : Event) (after : List Sharing) : Type 0 where
  pub kept : KeepsAllowed before after
  pub added : IsAllowed after thread event

-- a thread's first `upto` events were taken in
pub record TakesEvents (before : List Sharing) (thread : ℕ) (events : List Event) (upto : ℕ) (after : List Sharing) : Type 0 where
  pub kept : KeepsAllowed before after
  pub added : (place : ℕ) (event : Event) → place < upto → slice_get events place ≡ Some event → IsAllowed after thread event

-- no two accesses of the journals conflict
abbrev pub HasNoConflict : Journals → Type 0
HasNoConflict journals = (a b : Place) → Conflict journals a b → ⊥
