-- What a thread demands next.
use Rattle.std.specs.Prelude.{◌≡◌, ℕ, ◌+◌, ◌<◌, true, false, List}
use Rattle.octet_model.specs.declared.command.Command.{Command}
use Rattle.octet_model.specs.Thread.{Configuration, AccessOrEnd, ToRead, ToWrite, ToBump, ToEnd, demanded, past_demanded}
use Rattle.octet_interp.specs.Demands.{ThreadState, given}
use Rattle.octet_interp.specs.Regions.{regions_ahead}
use Rattle.octet_replay.specs.declared.thread.NextDemand.{NextDemand}
use Rattle.octet_replay.specs.declared.thread.NextDemand.TheVariants.{Read, Write, Bump, Ended}

-- the access or end that a thread demands next
abbrev pub demand_of : NextDemand → AccessOrEnd
demand_of (Read object) = ToRead object
demand_of (Write object value) = ToWrite object value
demand_of (Bump object amount) = ToBump object amount
demand_of (Ended end) = ToEnd end

-- the thread stands before going past what it demands next. A read waits for its value
abbrev pub IsBeforeDemand : List Command → Configuration → NextDemand → ThreadState → Type 0
IsBeforeDemand commands c (Read object) s = (s.waits ≡ true) × ((value : ℕ) → (given s value).at ≡ past_demanded commands c value)
IsBeforeDemand commands c (Write object value) s = (s.waits ≡ false) × ((any : ℕ) → s.at ≡ past_demanded commands c any)
IsBeforeDemand commands c (Bump object amount) s = (s.waits ≡ false) × ((any : ℕ) → s.at ≡ past_demanded commands c any)
IsBeforeDemand commands c (Ended end) s = Unit {0}

-- the configuration demands what comes next here, and the thread stands before it
pub record IsDemandedNext (commands : List Command) (c : Configuration) (up_next : NextDemand) (s : ThreadState) : Type 0 where
  pub demands : demanded commands c ≡ demand_of up_next
  pub stands : IsBeforeDemand commands c up_next s

-- the `region` commands ahead of what the first state demands are counted in the next state
abbrev pub CountsAhead : ThreadState → ThreadState → Type 0
CountsAhead before after = after.regions ≡ before.regions + regions_ahead before.commands before.at

-- the object that the demand names is one of so many objects
abbrev pub NamesObject : ℕ → NextDemand → Type 0
NamesObject objects (Read object) = object < objects
NamesObject objects (Write object value) = object < objects
NamesObject objects (Bump object amount) = object < objects
NamesObject objects (Ended end) = Unit {0}
