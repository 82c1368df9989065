-- Where a thread stands, as a configuration.
use Rattle.std.specs.Prelude.{◌≡◌, ℕ, ◌+◌, ◌<◌, ◌≤◌, ◌^◌, ◌==◌, Bool, true, false, List, All, Option, Some, slice_get, slice_index}
use Rattle.octet_model.specs.declared.command.Command.{Command}
use Rattle.octet_model.specs.declared.command.Command.TheVariants.{Set, Copy, Add, Sub, Mul, Xor, Less, Same, Read, Loop, Branch, Close}
use Rattle.octet_model.specs.declared.limits.TheConstants.{MAX_FUEL}
use Rattle.octet_model.specs.Thread.{Configuration, stepped, with_register}
use Rattle.octet_interp.specs.Leads.{lead_of, IsLeadTable}
use Rattle.octet_model.specs.Validity.{IsRegister, HasRegisters, HasObject}
use Rattle.octet_interp.specs.declared.demand.Demand.{Demand}
use Rattle.octet_interp.specs.declared.demand.Demand.TheVariants.{Read, Write, Bump, Ended}
use Rattle.octet_interp.specs.declared.context.Context.{Context}

-- the configuration of the thread that the code keeps
abbrev pub configuration_of : Context → Configuration
configuration_of context = record { place = context.place; registers = context.registers; fuel = context.fuel }

-- the value of a write and the amount of a bump are below 2 ^ 64
abbrev pub HasSmallValue : Demand → Type 0
HasSmallValue (Write object value) = value < 2 ^ 64
HasSmallValue (Bump object amount) = amount < 2 ^ 64
HasSmallValue _ = Unit {0}

-- the test whether a command gives a register a value by itself
abbrev pub is_calculation : Command → Bool
is_calculation (Set to number) = true
is_calculation (Copy to from) = true
is_calculation (Add to left right) = true
is_calculation (Sub to left right) = true
is_calculation (Mul to left right) = true
is_calculation (Xor to left right) = true
is_calculation (Less to left right) = true
is_calculation (Same to left right) = true
is_calculation _ = false

-- the command gives the register of the first number the value of the second, from these registers
abbrev pub Calculates : Command → List ℕ → ℕ × ℕ → Type 0
Calculates command registers result =
    (IsRegister result.0) × ((commands : List Command) (c : Configuration) → c.registers ≡ registers → stepped commands c command ≡ with_register c result.0 result.1)

-- the test whether a command leads away: an opener whose register is 0, or an end
abbrev pub leads_away : Command → List ℕ → Bool
leads_away (Loop test) registers = slice_index registers test == 0
leads_away (Branch test) registers = slice_index registers test == 0
leads_away Close registers = true
leads_away _ registers = false

-- the command takes the configuration before to the one after, where this place is its lead
abbrev pub Obeys : Command → ℕ → Configuration → Configuration → Type 0
Obeys command lead before after = (commands : List Command) → lead ≡ lead_of commands before.place (Some command) → after ≡ stepped commands before command

-- a demand other than the end leaves a command to go past, with fuel for it
abbrev pub CanPass : Demand → ℕ → ℕ → ℕ → Type 0
CanPass (Ended end) place fuel len = Unit {0}
CanPass _ place fuel len = (0 < fuel) × (place < len)

-- the command is a read, with fuel left
abbrev pub WaitsAt : Option Command → ℕ → Type 0
WaitsAt (Some (Read to object)) fuel = 0 < fuel
WaitsAt _ fuel = ⊥

-- the commands of a thread name registers and objects that are there, and the table has their leads.
-- A read stands where one waits, and each `region` command that was run took fuel
pub record IsConsistent (commands : List Command) (leads : List ℕ) (objects : ℕ) (context : Context) (waits : Bool) : Type 0 where
  pub registers_there : All HasRegisters commands
  pub objects_there : All (HasObject objects) commands
  pub lead_table : IsLeadTable commands leads
  pub read_waits : waits ≡ true → WaitsAt (slice_get commands context.place) context.fuel
  pub regions_took_fuel : context.regions + context.fuel ≤ MAX_FUEL
