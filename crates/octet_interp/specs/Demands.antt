-- What a thread demands, safe points and pauses among it.
use Rattle.std.specs.Prelude.{ℕ, zero, suc, ◌+◌, ◌^◌, ◌<◌, ◌≤◌, Bool, true, false, List, [], length, Option, Some, None, unwrap_or, get_or, slice_get, slice_index}
use Rattle.octet_model.specs.declared.command.Command.{Command}
use Rattle.octet_model.specs.declared.command.Command.TheVariants.{Read, Write, Bump, Safe, Pause}
use Rattle.octet_model.specs.declared.outcome.End.TheVariants.{Done, Spent}
use Rattle.octet_model.specs.declared.script.Script.{Script}
use Rattle.octet_model.specs.Thread.{Configuration, starting_configuration, run_to, moved_to, past_access}
use Rattle.octet_interp.specs.Regions.{regions_to}
use Rattle.octet_interp.specs.declared.demand.Demand.{Demand}
use Rattle.octet_interp.specs.declared.demand.Demand.TheVariants.{Read, Write, Bump, Safe, Pause, Ended}

-- the state of a running thread: its commands, where it stands, and whether a read waits for its value.
-- The script's number of objects and the number of `region` commands run are told too
pub record ThreadState : Type 0 where
  pub commands : List Command
  pub at : Configuration
  pub waits : Bool
  pub objects : ℕ
  pub regions : ℕ

-- the state at the start of a thread of a script
abbrev pub starting_thread : Script → ℕ → ThreadState
starting_thread script thread = record { commands = get_or script.threads thread []; at = starting_configuration script.fuel; waits = false; objects = length script.objects; regions = 0 }

-- the test whether a command is a demand: an access, a safe point or a pause
abbrev pub is_demand : Command → Bool
is_demand (Read to object) = true
is_demand (Write object from) = true
is_demand (Bump object from) = true
is_demand Safe = true
is_demand Pause = true
is_demand _ = false

-- the configuration at the next command that is a demand, or at the thread's end
abbrev pub at_demand : List Command → Configuration → Configuration
at_demand commands c = run_to is_demand commands c.fuel c

-- what a command demands, if it is a demand
abbrev pub demand_of_command : Command → List ℕ → Option Demand
demand_of_command (Read to object) registers = Some (Read object)
demand_of_command (Write object from) registers = Some (Write object (slice_index registers from))
demand_of_command (Bump object from) registers = Some (Bump object (slice_index registers from))
demand_of_command Safe registers = Some Safe
demand_of_command Pause registers = Some Pause
demand_of_command _ registers = None

-- what a configuration demands at its command. Without a command its end is Done, without fuel Spent.
-- A run with fuel left stops at no other command than a demand
abbrev pub demand_from : Option Command → Configuration → Demand
demand_from None c = Ended Done
demand_from (Some command) c = elim c.fuel [ zero ↦ Ended Spent | suc fuel ↦ unwrap_or (demand_of_command command c.registers) (Ended Spent) ]

-- the configuration after a demand. A read and an end stay where they are, the others go on to the next place
abbrev pub past_demand : Demand → Configuration → Configuration
past_demand (Read object) c = c
past_demand (Ended end) c = c
past_demand _ c = moved_to c (suc c.place)

-- the test whether a demand wants a value to be given
abbrev pub is_read : Demand → Bool
is_read (Read object) = true
is_read _ = false

-- what a thread demands next
abbrev pub next_demand : ThreadState → Demand
next_demand s = let c = at_demand s.commands s.at in demand_from (slice_get s.commands c.place) c

-- the state of a thread after its next demand
abbrev pub after_demand : ThreadState → ThreadState
after_demand s = record { commands = s.commands; at = past_demand (next_demand s) (at_demand s.commands s.at); waits = is_read (next_demand s); objects = s.objects; regions = s.regions + regions_to is_demand s.commands s.at.fuel s.at }

-- the state after the read that waits, with its value
abbrev pub given : ThreadState → ℕ → ThreadState
given s value = record { commands = s.commands; at = past_access (slice_get s.commands s.at.place) s.at value; waits = false; objects = s.objects; regions = s.regions }

-- a demand's object is one of so many, and its value or amount is below 2 ^ 64
abbrev pub IsPossible : ℕ → Demand → Type 0
IsPossible objects (Read object) = object < objects
IsPossible objects (Write object value) = (object < objects) × (value < 2 ^ 64)
IsPossible objects (Bump object amount) = (object < objects) × (amount < 2 ^ 64)
IsPossible objects _ = Unit {0}

-- each demand but the end takes fuel. A read takes it when its value is given, the others when they are demanded
abbrev pub TakesFuel : Demand → ℕ → ℕ → Type 0
TakesFuel (Read object) before after = (0 < after) × (after ≤ before)
TakesFuel (Ended end) before after = after ≤ before
TakesFuel _ before after = after < before
