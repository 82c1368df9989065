-- What a thread is told to demand is what it demands.
use Rattle.std.proofs.Common.{◌≡◌, ℕ, zero, suc, pred, ◌+◌, ◌<◌, ◌≤◌, true, false, List, Option, Some, None, unwrap_or, slice_get, slice_index, refl, sym, ap, ◌∙◌, arith}
use Rattle.octet_model.specs.declared.command.Command.{Command}
use Rattle.octet_model.specs.declared.command.Command.TheVariants.{Read, Write, Bump, Safe, Pause}
use Rattle.octet_model.specs.declared.outcome.End.TheVariants.{Done, Spent}
use Rattle.octet_model.specs.Thread.{Configuration, is_access, settled, demand_at, demanded, AccessOrEnd, past_access, past_demanded, ToRead, ToWrite, ToBump, ToEnd}
use Rattle.octet_interp.specs.declared.demand.Demand.{Demand}
use Rattle.octet_interp.specs.declared.demand.Demand.TheVariants.{Read, Write, Bump, Safe, Pause, Ended}
use Rattle.octet_interp.specs.Demands.{ThreadState, is_demand, at_demand, demand_of_command, demand_from, past_demand, is_read, next_demand, TakesFuel}
use Rattle.octet_interp.specs.Regions.{regions_to}
use Rattle.octet_interp.specs.Laws.{Agrees, DemandsAreThoseOfTheThread, DemandsTakeFuel, DemandsFollowFromWhereItSettles}
use Rattle.octet_interp.proofs.Runs.{one_fuel, told_with, goes_on, stays_at, stays_past, stays_empty, along, stopped}

no_access : (command : Command) → is_demand command ≡ false → is_access command ≡ false
no_access (Read to object) is = absurd cc
no_access (Write object from) is = absurd cc
no_access (Bump object from) is = absurd cc
no_access _ is = refl

-- a run to the next told command changes nothing of where the thread settles
pub settles_alike : (commands : List Command) (c : Configuration) → settled commands (at_demand commands c) ≡ settled commands c
settles_alike commands c =
    along is_demand commands (λ a b. settled commands b ≡ settled commands a) (λ a. refl)
    (λ a b command at plain fuelled alike. alike ∙ goes_on is_access commands a command at (no_access command plain) fuelled)
    c.fuel c refl

fuel_falls : (commands : List Command) (c : Configuration) → (at_demand commands c).fuel ≤ c.fuel
fuel_falls commands c =
    along is_demand commands (λ a b. b.fuel ≤ a.fuel) (λ a. omega arith)
    (λ a b command at plain fuelled less. omega (arith, one_fuel commands a command))
    c.fuel c refl

-- the next told command is told where the thread stands
arrives_once : (commands : List Command) (c : Configuration) → at_demand commands (at_demand commands c) ≡ at_demand commands c
arrives_once commands c =
    along is_demand commands (λ a b. at_demand commands b ≡ at_demand commands a) (λ a. refl)
    (λ a b command at plain fuelled alike. alike ∙ goes_on is_demand commands a command at plain fuelled)
    c.fuel c refl

demands_where : (commands : List Command) (c d : Configuration) → settled commands c ≡ d → demanded commands c ≡ demand_at (slice_get commands d.place) d
demands_where commands c d is = ap (λ (x : Configuration). demand_at (slice_get commands x.place) x) is

goes_past : (commands : List Command) (c d : Configuration) (value : ℕ) → settled commands c ≡ d → past_demanded commands c value ≡ past_access (slice_get commands d.place) d value
goes_past commands c d value is = ap (λ (x : Configuration). past_access (slice_get commands x.place) x value) is

pub follows : DemandsFollowFromWhereItSettles
follows commands c d is =
    (demands_where commands c (settled commands d) is, λ value. goes_past commands c (settled commands d) value is)

spent : (command : Command) (d : Configuration) → d.fuel ≡ 0 → demand_at (Some command) d ≡ ToEnd Spent
spent (Read to object) d none = ap (λ (fuel : ℕ). elim fuel as (λ n. AccessOrEnd) [ zero ↦ ToEnd Spent | suc n ↦ ToRead object ]) none
spent (Write object from) d none = ap (λ (fuel : ℕ). elim fuel as (λ n. AccessOrEnd) [ zero ↦ ToEnd Spent | suc n ↦ ToWrite object (slice_index d.registers from) ]) none
spent (Bump object from) d none = ap (λ (fuel : ℕ). elim fuel as (λ n. AccessOrEnd) [ zero ↦ ToEnd Spent | suc n ↦ ToBump object (slice_index d.registers from) ]) none
spent _ d none = refl

with_fuel : (wanted : AccessOrEnd) (fuel : ℕ) → 0 < fuel → ◌≡◌ {A = AccessOrEnd} (elim fuel [ zero ↦ ToEnd Spent | suc n ↦ wanted ]) wanted
with_fuel wanted zero fuelled = absurd (omega arith)
with_fuel wanted (suc n) fuelled = refl

-- which command stands where a demand is told
abbrev pub IsToldBy : Demand → Command → List ℕ → Type 0
IsToldBy (Read object) command registers = (to : ℕ) × (command ≡ Read to object)
IsToldBy (Write object value) command registers = (from : ℕ) × (command ≡ Write object from) × (value ≡ slice_index registers from)
IsToldBy (Bump object amount) command registers = (from : ℕ) × (command ≡ Bump object from) × (amount ≡ slice_index registers from)
IsToldBy Safe command registers = command ≡ Safe
IsToldBy Pause command registers = command ≡ Pause
IsToldBy (Ended end) command registers = (is_demand command ≡ false) × (end ≡ Spent)

told_by : (command : Command) (registers : List ℕ) → IsToldBy (unwrap_or (demand_of_command command registers) (Ended Spent)) command registers
told_by (Read to object) registers = (to, refl)
told_by (Write object from) registers = (from, refl, refl)
told_by (Bump object from) registers = (from, refl, refl)
told_by Safe registers = refl
told_by Pause registers = refl
told_by _ registers = (refl, refl)

-- no command is left, or no fuel, or the command tells the demand
pub data Tells (o : Option Command) (d : Configuration) : Demand → Type 0 where
  NoCommand : o ≡ None → Tells o d (Ended Done)
  NoFuel : (command : Command) → o ≡ Some command → d.fuel ≡ 0 → Tells o d (Ended Spent)
  ByCommand : (command : Command) (demand : Demand) → o ≡ Some command → 0 < d.fuel → IsToldBy demand command d.registers → Tells o d demand

pub tells : (o : Option Command) (d : Configuration) → Tells o d (demand_from o d)
tells None d = NoCommand refl
tells (Some command) d = go d.fuel refl
  where
    go : (fuel : ℕ) → d.fuel ≡ fuel → Tells (Some command) d (told_with command d.registers fuel)
    go zero is = NoFuel command refl is
    go (suc fuel) is = ByCommand command (unwrap_or (demand_of_command command d.registers) (Ended Spent)) refl (omega arith) (told_by command d.registers)

-- where the thread stands as a demand is told
abbrev pub standing_with : ThreadState → Demand → ThreadState
standing_with s demand = record { commands = s.commands; at = past_demand demand (at_demand s.commands s.at); waits = is_read demand; objects = s.objects; regions = s.regions + regions_to is_demand s.commands s.at.fuel s.at }

-- an access that is told is what the thread demands, and the thread settles where it is told
module _ (s : ThreadState) (command : Command) (here : slice_get s.commands (at_demand s.commands s.at).place ≡ Some command) (access : is_access command ≡ true) where
  settles_there : settled s.commands s.at ≡ at_demand s.commands s.at
  settles_there = let a = at_demand s.commands s.at in sym (settles_alike s.commands s.at) ∙ stays_at is_access s.commands a.fuel a command here access

  demands_it : (wanted : AccessOrEnd) → demand_at (Some command) (at_demand s.commands s.at) ≡ wanted → demanded s.commands s.at ≡ wanted
  demands_it wanted is =
      let a = at_demand s.commands s.at in
      demands_where s.commands s.at a settles_there ∙ ap (λ (o : Option Command). demand_at o a) here ∙ is

  passes_it : (value : ℕ) → past_demanded s.commands s.at value ≡ past_access (Some command) (at_demand s.commands s.at) value
  passes_it value =
      let a = at_demand s.commands s.at in
      goes_past s.commands s.at a value settles_there ∙ ap (λ (o : Option Command). past_access o a value) here

agrees_by : (s : ThreadState) (command : Command) (demand : Demand) → slice_get s.commands (at_demand s.commands s.at).place ≡ Some command → 0 < (at_demand s.commands s.at).fuel
    → IsToldBy demand command (at_demand s.commands s.at).registers → Agrees demand s (standing_with s demand)
agrees_by s command (Read object) at fuelled by =
    let a = at_demand s.commands s.at in
    let here = at ∙ ap (λ (x : Command). Some x) by.1 in (
      demands_it s (Read by.0 object) here refl (ToRead object) (with_fuel (ToRead object) a.fuel fuelled),
      λ value. sym (goes_past s.commands s.at a value (settles_there s (Read by.0 object) here refl)),
    )
agrees_by s command (Write object value) at fuelled by =
    let a = at_demand s.commands s.at in
    let here = at ∙ ap (λ (x : Command). Some x) by.1 in (
      demands_it s (Write object by.0) here refl (ToWrite object value) (with_fuel (ToWrite object (slice_index a.registers by.0)) a.fuel fuelled ∙ ap (ToWrite object) (sym by.2)),
      λ any. sym (passes_it s (Write object by.0) here refl any),
    )
agrees_by s command (Bump object amount) at fuelled by =
    let a = at_demand s.commands s.at in
    let here = at ∙ ap (λ (x : Command). Some x) by.1 in (
      demands_it s (Bump object by.0) here refl (ToBump object amount) (with_fuel (ToBump object (slice_index a.registers by.0)) a.fuel fuelled ∙ ap (ToBump object) (sym by.2)),
      λ any. sym (passes_it s (Bump object by.0) here refl any),
    )
agrees_by s command Safe at fuelled by =
    let a = at_demand s.commands s.at in
    goes_on is_access s.commands a Safe (at ∙ ap (λ (x : Command). Some x) by) refl fuelled ∙ settles_alike s.commands s.at
agrees_by s command Pause at fuelled by =
    let a = at_demand s.commands s.at in
    goes_on is_access s.commands a Pause (at ∙ ap (λ (x : Command). Some x) by) refl fuelled ∙ settles_alike s.commands s.at
agrees_by s command (Ended end) at fuelled by =
    let stop : is_demand command ≡ true = stopped is_demand s.commands s.at.fuel s.at command refl fuelled at in
    absurd (let none : true ≡ false = sym stop ∙ by.0 in cc)

-- an end is told again where it was told
told_again : (s : ThreadState) → next_demand (standing_with s (Ended Done)) ≡ next_demand s
told_again s = ap (λ (x : Configuration). demand_from (slice_get s.commands x.place) x) (arrives_once s.commands s.at)

agrees_with : (s : ThreadState) (demand : Demand) → Tells (slice_get s.commands (at_demand s.commands s.at).place) (at_demand s.commands s.at) demand → next_demand s ≡ demand → Agrees demand s (standing_with s demand)
agrees_with s demand (NoCommand at) is =
    let a = at_demand s.commands s.at in
    let settles : settled s.commands s.at ≡ a = sym (settles_alike s.commands s.at) ∙ stays_past is_access s.commands a.fuel a at in
    (demands_where s.commands s.at a settles ∙ ap (λ (o : Option Command). demand_at o a) at, told_again s ∙ is)
agrees_with s demand (NoFuel command at none) is =
    let a = at_demand s.commands s.at in
    let settles : settled s.commands s.at ≡ a = sym (settles_alike s.commands s.at) ∙ stays_empty is_access s.commands a.fuel a none in
    (demands_where s.commands s.at a settles ∙ ap (λ (o : Option Command). demand_at o a) at ∙ spent command a none, told_again s ∙ is)
agrees_with s demand (ByCommand command other at fuelled by) is = agrees_by s command demand at fuelled by

pub agrees : DemandsAreThoseOfTheThread
agrees s = agrees_with s (next_demand s) (tells (slice_get s.commands (at_demand s.commands s.at).place) (at_demand s.commands s.at)) refl

takes_by : (s : ThreadState) (demand : Demand) → 0 < (at_demand s.commands s.at).fuel → TakesFuel demand s.at.fuel (standing_with s demand).at.fuel
takes_by s (Read object) fuelled = (fuelled, fuel_falls s.commands s.at)
takes_by s (Ended end) fuelled = fuel_falls s.commands s.at
takes_by s _ fuelled = let less : pred (at_demand s.commands s.at).fuel < s.at.fuel = omega (arith, fuel_falls s.commands s.at) in less

takes_with : (s : ThreadState) (demand : Demand) → Tells (slice_get s.commands (at_demand s.commands s.at).place) (at_demand s.commands s.at) demand → TakesFuel demand s.at.fuel (standing_with s demand).at.fuel
takes_with s demand (NoCommand at) = fuel_falls s.commands s.at
takes_with s demand (NoFuel command at none) = fuel_falls s.commands s.at
takes_with s demand (ByCommand command other at fuelled by) = takes_by s demand fuelled

pub takes : DemandsTakeFuel
takes s = takes_with s (next_demand s) (tells (slice_get s.commands (at_demand s.commands s.at).place) (at_demand s.commands s.at))
