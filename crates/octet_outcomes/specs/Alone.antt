-- Accesses that conflict with none that another thread may still make.
use Rattle.std.specs.Prelude.{◌≡◌, ◌≢◌, ℕ, zero, suc, ◌<◌, List, length, Some}
use Rattle.octet_model.specs.declared.command.Command.{Command}
use Rattle.octet_model.specs.declared.script.Script.{Script}
use Rattle.octet_model.specs.Orders.{commands_of}
use Rattle.octet_interp.specs.declared.demand.Demand.{Demand}
use Rattle.octet_interp.specs.declared.demand.Demand.TheVariants.{Read, Write, Bump}
use Rattle.octet_interp.specs.declared.program.Stand.{Stand}
use Rattle.octet_interp.specs.Standing.{access_at, stand_past}
use Rattle.octet_outcomes.specs.Moments.{Moment, stand_in}

-- the order of the two accesses matters: they are of one object, and neither two reads nor two bumps
abbrev pub Conflicts : Demand → Demand → Type 0
Conflicts (Read object) (Write other value) = object ≡ other
Conflicts (Read object) (Bump other amount) = object ≡ other
Conflicts (Write object value) (Read other) = object ≡ other
Conflicts (Write object value) (Write other wrote) = object ≡ other
Conflicts (Write object value) (Bump other amount) = object ≡ other
Conflicts (Bump object amount) (Read other) = object ≡ other
Conflicts (Bump object amount) (Write other value) = object ≡ other
Conflicts _ _ = ⊥

-- whatever the reads give, none of the next so many accesses of a thread that stands there conflicts with this one
abbrev pub KeepsOff : ℕ → List Command → ℕ → Demand → Stand → Type 0
KeepsOff zero commands fuel demand stand = Unit {0}
KeepsOff (suc more) commands fuel demand stand =
    (other : Demand) → access_at commands stand ≡ Some other → (Conflicts demand other → ⊥) × ((value : ℕ) → KeepsOff more commands fuel demand (stand_past commands fuel stand value))

-- the thread stands at an access that conflicts with none that another thread may still make
pub record IsAlone (script : Script) (m : Moment) (thread : ℕ) : Type 0 where
  pub demand : Demand
  pub at : access_at (commands_of script thread) (stand_in m thread) ≡ Some demand
  pub others : (other : ℕ) → other < length script.threads → other ≢ thread → (more : ℕ) → KeepsOff more (commands_of script other) script.fuel demand (stand_in m other)
