-- Stands that are kept once.
use Rattle.std.specs.Prelude.{◌≡◌, ℕ, ◌<◌, List, length, get_or}
use Rattle.octet_interp.specs.declared.program.Stand.{Stand}
use Rattle.octet_outcomes.specs.declared.slots.Found.{Found}
use Rattle.octet_outcomes.specs.declared.slots.Found.TheVariants.{At}
use Rattle.octet_outcomes.specs.Rows.{Grows}
use Rattle.octet_outcomes.specs.Moments.{no_stand}

-- where a stand was found, it is
abbrev pub IsStandFoundAt : List Stand → Stand → Found → Type 0
IsStandFoundAt stands stand (At place) = (place < length stands) × (get_or stands place no_stand ≡ stand)
IsStandFoundAt stands stand _ = Unit {0}

-- the stand is one of those, at this place, and no other stand came
pub record KeepsStand (before : List Stand) (stand : Stand) (place : ℕ) (after : List Stand) : Type 0 where
  pub there : place < length after
  pub is : get_or after place no_stand ≡ stand
  pub grows : Grows before stand after
