-- Stands and moments from which threads go on alike, though registers that are read no more may differ.
use Rattle.std.specs.Prelude.{◌≡◌, ℕ, zero, suc, ◌<◌, List, length, get_or, Some}
use Rattle.octet_model.specs.declared.command.Command.{Command}
use Rattle.octet_model.specs.declared.script.Script.{Script}
use Rattle.octet_model.specs.Orders.{commands_of}
use Rattle.octet_interp.specs.declared.demand.Demand.{Demand}
use Rattle.octet_interp.specs.declared.program.Stand.{Stand}
use Rattle.octet_interp.specs.Standing.{access_at, stand_past}
use Rattle.octet_outcomes.specs.Moments.{Moment, no_moment, stand_in, next_moment}

-- whatever the reads give, for so many accesses a thread comes to the same places from both, and makes the same accesses
abbrev pub GoAlike : ℕ → List Command → ℕ → Stand → Stand → Type 0
GoAlike zero commands fuel s t = Unit {0}
GoAlike (suc more) commands fuel s t =
    (s.place ≡ t.place)
    × (access_at commands s ≡ access_at commands t)
    × ((demand : Demand) → access_at commands s ≡ Some demand → (value : ℕ) → GoAlike more commands fuel (stand_past commands fuel s value) (stand_past commands fuel t value))

-- for any number of accesses
pub record StandAlike (commands : List Command) (fuel : ℕ) (s t : Stand) : Type 0 where
  pub go : (more : ℕ) → GoAlike more commands fuel s t

-- the heap is the same, and all threads go on alike
pub record AreAlike (script : Script) (m k : Moment) : Type 0 where
  pub heap : m.heap ≡ k.heap
  pub stands : length m.stands ≡ length k.stands
  pub each : (thread : ℕ) → StandAlike (commands_of script thread) script.fuel (stand_in m thread) (stand_in k thread)

-- some moment is like this one
pub record HasLike (script : Script) (moments : List Moment) (m : Moment) : Type 0 where
  pub place : ℕ
  pub there : place < length moments
  pub like : AreAlike script m (get_or moments place no_moment)

-- the access of a thread leads from a moment to one that is like the one at the place
pub record Leads (script : Script) (moments : List Moment) (m : Moment) (thread place : ℕ) : Type 0 where
  pub there : place < length moments
  pub after : Moment
  pub next : next_moment script m thread ≡ Some after
  pub like : AreAlike script after (get_or moments place no_moment)
