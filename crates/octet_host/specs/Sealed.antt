-- What threads leave under seals, and the notes that are kept of it.
use Rattle.std.specs.Prelude.{◌≡◌, ℕ, ◌<◌, All, List, length, Some, slice_index_or}
use Rattle.std.specs.declared.alloc.Global.{Global}
use Rattle.once_cell.specs.declared.race.note.Note.{Note}
use Rattle.once_cell.specs.Once.{cell_name}

-- the note is of this value, which was put under the seal of this number
pub record IsSealed {X : Type 0} (seals : List (Global × ℕ)) (number : ℕ) (value : X) (note : Note X) : Type 0 where
  pub seal : Global × ℕ
  pub at : (none : Global × ℕ) → slice_index_or seals number none ≡ seal
  pub cell : note.cell ≡ cell_name seal
  pub known : note.known ≡ Some value

-- what is found, in each place, is that part of what was noted of the place
abbrev pub AreFound : {X Y : Type 0} → (X → Y) → List (Global × ℕ) → List (Note X) → List Y → Type 0
AreFound {X = X} {Y = Y} part seals notes found =
    (place : ℕ) (none : Y) (value : X) (nothing : Note X) → place < length found → IsSealed seals place value (slice_index_or notes place nothing) → slice_index_or found place none ≡ part value

-- there is a note of each thread, in its place
pub record AreNoted {X N : Type 0} (IsNoted : ℕ → X → N → Type 0) (threads : List X) (notes : List N) : Type 0 where
  pub count : length notes ≡ length threads
  pub each : (place : ℕ) (nobody : X) (none : N) → place < length threads → IsNoted place (slice_index_or threads place nobody) (slice_index_or notes place none)

-- the threads all share one thing, as those of one run do
abbrev pub ShareOne : {X S : Type 0} → (X → S) → List X → Type 0
ShareOne {S = S} share threads = (whole : S) × All (λ it. share it ≡ whole) threads
