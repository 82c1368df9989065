-- From where on a thread makes no access that conflicts with one of each object.
use Rattle.std.specs.Prelude.{◌≡◌, ℕ, ◌<◌, ◌≤◌, List, length, get_or, Some, None, IfSome}
use Rattle.octet_model.specs.declared.command.Command.{Command}
use Rattle.octet_interp.specs.declared.demand.Demand.{Demand}
use Rattle.octet_interp.specs.declared.demand.Demand.TheVariants.{Read, Write, Bump}
use Rattle.octet_outcomes.specs.declared.quiet.Quiet.{Quiet}
use Rattle.octet_outcomes.specs.Flow.{IsQuietFrom}

-- what is known of an object that is not there
abbrev pub unknown : Quiet
unknown = record { read = None; write = None; bump = None }

-- it says right from where on no access conflicts with a read, a write or a bump of the object
pub record IsQuiet (commands : List Command) (object : ℕ) (quiet : Quiet) : Type 0 where
  pub read : IfSome quiet.read (IsQuietFrom commands (Read object))
  pub write : IfSome quiet.write (IsQuietFrom commands (Write object 0))
  pub bump : IfSome quiet.bump (IsQuietFrom commands (Bump object 0))

-- so for each object
abbrev pub AreQuiet : List Command → List Quiet → Type 0
AreQuiet commands quiets = (object : ℕ) → object < length quiets → IsQuiet commands object (get_or quiets object unknown)

-- from some place up to this one on, no command may make an access that conflicts with this one
pub record IsOver (commands : List Command) (demand : Demand) (place : ℕ) : Type 0 where
  pub from : ℕ
  pub passed : from ≤ place
  pub quiet : IsQuietFrom commands demand from

-- this is what is known of the access
abbrev pub IsKnown : List Quiet → Demand → ℕ → Type 0
IsKnown quiets (Read object) from = (object < length quiets) × ((get_or quiets object unknown).read ≡ Some from)
IsKnown quiets (Write object value) from = (object < length quiets) × ((get_or quiets object unknown).write ≡ Some from)
IsKnown quiets (Bump object amount) from = (object < length quiets) × ((get_or quiets object unknown).bump ≡ Some from)
IsKnown quiets _ from = ⊥
