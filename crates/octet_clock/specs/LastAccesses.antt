-- Of each object, the last access by each thread.
use Rattle.std.specs.Prelude.{◌≡◌, ℕ, suc, ◌<◌, ◌≤◌, Bool, true, false, ◌==◌, List, Option, Some, None, length, get_or}
use Rattle.octet_model.specs.declared.event.Event.{Event}
use Rattle.octet_model.specs.declared.event.Event.TheVariants.{Read, Write, Update, Marked}
use Rattle.octet_model.specs.Machine.{Journals}
use Rattle.octet_model.specs.HappensBefore.{event_at}
use Rattle.octet_model.specs.declared.event.Place.{Place}
use Rattle.octet_model.specs.Past.{InPast}
use Rattle.octet_clock.specs.declared.accesses.ObjectAccesses.{ObjectAccesses}
use Rattle.octet_clock.specs.declared.sources.Prefix.{Prefix}
use Rattle.octet_clock.specs.Clock.{count_in, no_events, IsRaised}
use Rattle.octet_clock.specs.Play.{made_by, IsMadeBefore}
use Rattle.octet_clock.specs.Verdict.{FollowsConflicts}

-- the record of an object that no thread has accessed
abbrev pub untouched : ObjectAccesses
untouched = record { reads = no_events; writes = no_events; last_write = record { thread = 0; count = 0 }; last_access = Some (record { thread = 0; count = 0 }) }

-- the record that is kept of an object
abbrev pub kept_of : List ObjectAccesses → ℕ → ObjectAccesses
kept_of objects object = get_or objects object untouched

-- the number of a thread's first events up to its last read of an object, or 0 without a read
abbrev pub read_in : List ObjectAccesses → ℕ → ℕ → ℕ
read_in objects object thread = count_in (kept_of objects object).reads thread

-- the number of a thread's first events up to its last write of an object, or 0 without a write
abbrev pub written_in : List ObjectAccesses → ℕ → ℕ → ℕ
written_in objects object thread = count_in (kept_of objects object).writes thread

-- the first events of a thread, if such are kept, whose past has all accesses
-- in conflict with a write, or with a read
abbrev pub conflicts_within : ObjectAccesses → Bool → Option Prefix
conflicts_within kept true = kept.last_access
conflicts_within kept false = Some kept.last_write

-- a read is noted of a thread that made `count` events with it. It may follow all other accesses
pub record IsReadNoted (before : ObjectAccesses) (thread count : ℕ) (follows : Bool) (after : ObjectAccesses) : Type 0 where
  pub reads : IsRaised before.reads thread count after.reads
  pub writes : after.writes ≡ before.writes
  pub last_write : after.last_write ≡ before.last_write
  pub last_access : after.last_access ≡ elim follows [ true ↦ Some (record { thread = thread; count = count }) | false ↦ None ]

-- a write is noted of a thread that made `count` events with it
pub record IsWriteNoted (before : ObjectAccesses) (thread count : ℕ) (after : ObjectAccesses) : Type 0 where
  pub reads : after.reads ≡ before.reads
  pub writes : IsRaised before.writes thread count after.writes
  pub last_write : after.last_write ≡ record { thread = thread; count = count }
  pub last_access : after.last_access ≡ Some (record { thread = thread; count = count })

-- the test whether an event is a read of the object
abbrev pub is_read_of : ℕ → Event → Bool
is_read_of object (Read other value) = other == object
is_read_of object _ = false

-- the test whether an event is a write or an update of the object
abbrev pub is_write_of : ℕ → Event → Bool
is_write_of object (Write other value) = other == object
is_write_of object (Update other before after) = other == object
is_write_of object _ = false

-- the test whether an event conflicts with a write, or with a read, of the object
abbrev pub conflicts_with : ℕ → Bool → Event → Bool
conflicts_with object writes (Read other value) = elim writes [ true ↦ other == object | false ↦ false ]
conflicts_with object writes (Write other value) = other == object
conflicts_with object writes (Update other before after) = other == object
conflicts_with object writes (Marked mark) = false

-- the last of a thread's first `now` events that passes the test is the last of its first `upto` events.
-- None passes where `upto` is 0
pub record IsLastOf (journals : Journals) (test : Event → Bool) (thread now upto : ℕ) : Type 0 where
  pub within : upto ≤ now
  pub none_later : (event : ℕ) (there : Event) → upto ≤ event → event < now → event_at journals (record { thread = thread; event = event }) ≡ Some there → test there ≡ false
  pub passes : (event : ℕ) → upto ≡ suc event → (there : Event) × (event_at journals (record { thread = thread; event = event }) ≡ Some there) × (test there ≡ true)

-- the last event of each thread that passes an object's test is kept, for each object
abbrev pub KeepsLast : Journals → List ℕ → ℕ → (ℕ → Event → Bool) → (ℕ → ℕ → ℕ) → Type 0
KeepsLast journals play index test last = (object thread : ℕ) → IsLastOf journals (test object) thread (made_by play index thread) (last object thread)

-- the list has a record of the object, and all records are as before
pub record IsCovered (before : List ObjectAccesses) (object : ℕ) (after : List ObjectAccesses) : Type 0 where
  pub there : object < length after
  pub same : (other : ℕ) → kept_of after other ≡ kept_of before other

-- the past of a thread's first events has all accesses made before an index in conflict with this one of the object.
-- The condition is that every step before the index follows its conflicts
pub record LieWithin (journals : Journals) (play : List ℕ) (index object : ℕ) (writing : Bool) (thread now : ℕ) : Type 0 where
  pub lie : ((step : ℕ) → step < index → FollowsConflicts journals play step) → (place : Place) (event : Event) → IsMadeBefore play index place
      → event_at journals place ≡ Some event → conflicts_with object writing event ≡ true → InPast journals thread now place
