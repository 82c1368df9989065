-- What is known at an access, to judge it.
use Rattle.std.specs.Prelude.{◌≡◌, ◌≢◌, ◌≤◌, ℕ, Bool, true, false, List, Some}
use Rattle.octet_model.specs.declared.event.Event.{Event}
use Rattle.octet_model.specs.Machine.{Journals}
use Rattle.octet_model.specs.HappensBefore.{object_of, is_write}
use Rattle.octet_clock.specs.declared.accesses.Accesses.{Accesses}
use Rattle.octet_clock.specs.declared.accesses.ObjectAccesses.{ObjectAccesses}
use Rattle.octet_clock.specs.declared.clock.Clock.{Clock}
use Rattle.octet_clock.specs.declared.sources.Prefix.{Prefix}
use Rattle.octet_clock.specs.LastAccesses.{conflicts_within, is_read_of, is_write_of, kept_of, read_in, written_in, IsReadNoted, IsWriteNoted, KeepsLast, LieWithin}
use Rattle.octet_clock.specs.Past.{IsPastOf}
use Rattle.octet_clock.specs.Play.{made_by}
use Rattle.octet_clock.specs.Sources.{IsNextStep}

-- the last reads and last writes of all objects are kept, with those in whose past they lie
pub record KeepsAccesses (journals : Journals) (play : List ℕ) (index : ℕ) (accesses : Accesses) : Type 0 where
  pub reads : KeepsLast journals play index is_read_of (read_in accesses.objects.items)
  pub writes : KeepsLast journals play index is_write_of (written_in accesses.objects.items)
  pub made : (object : ℕ) (writing : Bool) (first : Prefix) → conflicts_within (kept_of accesses.objects.items object) writing ≡ Some first → first.count ≤ made_by play index first.thread
  pub within : (object : ℕ) (writing : Bool) (first : Prefix) → conflicts_within (kept_of accesses.objects.items object) writing ≡ Some first → LieWithin journals play index object writing first.thread first.count

-- the next step is a thread's access of an object, which writes or not, and the clock is its past
pub record IsAccessStep (journals : Journals) (play : List ℕ) (index thread object : ℕ) (writing : Bool) (known : Clock) : Type 0 where
  pub event : Event
  pub next : IsNextStep journals play index thread event
  pub is_of : object_of event ≡ Some object
  pub does : is_write event ≡ writing
  pub past : IsPastOf journals thread (made_by play index thread) known

-- one more read, or one more write, is noted for an object
abbrev pub IsNoted : ObjectAccesses → Bool → ℕ → ℕ → Bool → ObjectAccesses → Type 0
IsNoted before true thread count follows after = IsWriteNoted before thread count after
IsNoted before false thread count follows after = IsReadNoted before thread count follows after

-- one more access of an object is noted, and those of all others stay
pub record AreNoted (before : List ObjectAccesses) (object : ℕ) (writing : Bool) (thread count : ℕ) (follows : Bool) (after : List ObjectAccesses) : Type 0 where
  pub own : IsNoted (kept_of before object) writing thread count follows (kept_of after object)
  pub others : (other : ℕ) → other ≢ object → kept_of after other ≡ kept_of before other
