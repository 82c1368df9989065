-- How far threads have come whose marks are given with the accesses between them.
use Rattle.std.specs.Prelude.{◌≡◌, ◌≢◌, ◌⊎◌, ℕ, ◌+◌, ◌^◌, ◌≤◌, get_or}
use Rattle.octet_model.specs.declared.log.Gapped.{Gapped}
use Rattle.octet_tail.specs.declared.placed.Placed.{Placed}
use Rattle.octet_tail.specs.declared.places.Come.{Come}
use Rattle.octet_tail.specs.declared.places.Places.{Places}

-- how far a thread has come
abbrev pub come_at : Places → ℕ → Come
come_at places thread = get_or places.come.items thread (record { events = 0; accesses = 0 })

-- after so many accesses more
abbrev pub passed : ℕ → Come → Come
passed gap come = record { events = come.events + gap; accesses = come.accesses + gap }

-- so many events, or so many accesses, are too many to be counted
abbrev pub AreUncounted : ℕ → ℕ → Type 0
AreUncounted events accesses = (2 ^ 64 ≤ events) ⊎ (2 ^ 64 ≤ accesses)

-- where a mark stands that comes next of a thread
abbrev pub place_of : Places → ℕ → Gapped → Placed
place_of places thread gapped = record {
  thread = thread;
  events = (come_at places thread).events + gapped.gap + 1;
  accesses = (come_at places thread).accesses + gapped.gap;
  mark = gapped.mark;
}

-- this thread comes to there, and the others stay where they are
pub record ComesTo (thread : ℕ) (there : Come) (before after : Places) : Type 0 where
  pub own : come_at after thread ≡ there
  pub others : (other : ℕ) → other ≢ thread → come_at after other ≡ come_at before other
