-- Where a thread stands, without its fuel, and how it goes on from there.
use Rattle.std.specs.Prelude.{ℕ, List, Option, Some, None, slice_get, slice_index}
use Rattle.std.specs.List.{All}
use Rattle.octet_model.specs.declared.command.Command.{Command}
use Rattle.octet_model.specs.declared.command.Command.TheVariants.{Read, Write, Bump}
use Rattle.octet_model.specs.Thread.{Configuration, settled, past_access}
use Rattle.octet_model.specs.Validity.{IsCommand}
use Rattle.octet_interp.specs.Leads.{IsLeadTable}
use Rattle.octet_interp.specs.declared.demand.Demand.{Demand}
use Rattle.octet_interp.specs.declared.demand.Demand.TheVariants.{Read, Write, Bump}
use Rattle.octet_interp.specs.declared.program.Stand.{Stand}

-- the commands of a thread, and the number of its script's objects
pub record ThreadProgram : Type 0 where
  pub commands : List Command
  pub objects : ℕ

-- the configuration of a thread that stands there, with this fuel
abbrev pub with_fuel : ℕ → Stand → Configuration
with_fuel fuel stand = record { place = stand.place; registers = stand.registers; fuel = fuel }

-- where a configuration stands
abbrev pub stand_of : Configuration → Stand
stand_of c = record { place = c.place; registers = c.registers }

-- what a command demands, if it is an access
abbrev pub access_demand : Command → List ℕ → Option Demand
access_demand (Read to object) registers = Some (Read object)
access_demand (Write object from) registers = Some (Write object (slice_index registers from))
access_demand (Bump object from) registers = Some (Bump object (slice_index registers from))
access_demand _ registers = None

-- the access at which a thread stands, if it stands at one
abbrev pub access_at : List Command → Stand → Option Demand
access_at commands stand = elim (slice_get commands stand.place) [ None ↦ None | Some command ↦ access_demand command stand.registers ]

-- where a thread stands after the access at which it stands, which gives a read this value
abbrev pub stand_past : List Command → ℕ → Stand → ℕ → Stand
stand_past commands fuel stand value = stand_of (settled commands (past_access (slice_get commands stand.place) (with_fuel fuel stand) value))

-- the commands of a program name registers and objects that are there, and the table has their leads
pub record IsProgram (commands : List Command) (leads : List ℕ) (objects : ℕ) : Type 0 where
  pub in_range : All (IsCommand objects) commands
  pub lead_table : IsLeadTable commands leads
