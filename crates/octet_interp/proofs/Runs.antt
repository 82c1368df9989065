-- Runs up to a command at which they stop.
use Rattle.std.proofs.Common.{◌≡◌, ℕ, zero, suc, pred, ◌<◌, ◌≤◌, Bool, true, false, List, All, length, Option, Some, None, unwrap_or, slice_get, refl, sym, ap, ◌∙◌, subst, arith}
use Rattle.std.proofs.lemmas.Option.{slice_get_past, slice_get_within, get_or_from_slice_get}
use Rattle.octet_model.specs.declared.command.Command.{Command}
use Rattle.octet_model.specs.declared.command.Command.TheVariants.{Set, Copy, Add, Sub, Mul, Xor, Less, Same, Read, Write, Bump, Loop, Branch, Safe, Pause}
use Rattle.octet_model.specs.declared.outcome.End.TheVariants.{Spent}
use Rattle.octet_model.specs.Validity.{HasObject}
use Rattle.octet_model.specs.Thread.{Configuration, run_to, stepped}
use Rattle.octet_interp.specs.declared.demand.Demand.{Demand}
use Rattle.octet_interp.specs.declared.demand.Demand.TheVariants.{Ended}
use Rattle.octet_interp.specs.Context.{CanPass, HasSmallValue}
use Rattle.octet_interp.specs.Demands.{is_demand, at_demand, demand_of_command, demand_from, IsPossible}

pub one_fuel : (commands : List Command) (c : Configuration) (command : Command) → (stepped commands c command).fuel ≡ pred c.fuel
one_fuel commands c (Set to number) = refl
one_fuel commands c (Copy to from) = refl
one_fuel commands c (Add to left right) = refl
one_fuel commands c (Sub to left right) = refl
one_fuel commands c (Mul to left right) = refl
one_fuel commands c (Xor to left right) = refl
one_fuel commands c (Less to left right) = refl
one_fuel commands c (Same to left right) = refl
one_fuel commands c (Loop test) = refl
one_fuel commands c (Branch test) = refl
one_fuel commands c _ = refl

module _ (stops : Command → Bool) (commands : List Command) where
  abbrev at_command : ℕ → Configuration → Option Command → Configuration
  at_command fuel c o =
      elim o [ None ↦ c | Some command ↦ elim (stops command) [ true ↦ c | false ↦ run_to stops commands fuel (stepped commands c command) ] ]

  abbrev at_kind : ℕ → Configuration → Command → Bool → Configuration
  at_kind fuel c command b = elim b [ true ↦ c | false ↦ run_to stops commands fuel (stepped commands c command) ]

  run_step : (fuel : ℕ) (c : Configuration) (o : Option Command) → slice_get commands c.place ≡ o → run_to stops commands (suc fuel) c ≡ at_command fuel c o
  run_step fuel c o is = ap (at_command fuel c) is

  -- a command at which it does not stop changes nothing of where it comes
  pub goes_on : (c : Configuration) (command : Command) → slice_get commands c.place ≡ Some command → stops command ≡ false → 0 < c.fuel
      → run_to stops commands (stepped commands c command).fuel (stepped commands c command) ≡ run_to stops commands c.fuel c
  goes_on c command is plain fuelled =
      let n : c.fuel ≡ suc (pred c.fuel) = omega arith in
      ap (λ (f : ℕ). run_to stops commands f (stepped commands c command)) (one_fuel commands c command)
      ∙ sym (ap (λ (f : ℕ). run_to stops commands f c) n ∙ run_step (pred c.fuel) c (Some command) is ∙ ap (at_kind (pred c.fuel) c command) plain)

  pub stays_at : (fuel : ℕ) (c : Configuration) (command : Command) → slice_get commands c.place ≡ Some command → stops command ≡ true → run_to stops commands fuel c ≡ c
  stays_at zero c command is stop = refl
  stays_at (suc fuel) c command is stop = run_step fuel c (Some command) is ∙ ap (at_kind fuel c command) stop

  pub stays_past : (fuel : ℕ) (c : Configuration) → slice_get commands c.place ≡ None → run_to stops commands fuel c ≡ c
  stays_past zero c is = refl
  stays_past (suc fuel) c is = run_step fuel c None is

  pub stays_empty : (fuel : ℕ) (c : Configuration) → fuel ≡ 0 → run_to stops commands fuel c ≡ c
  stays_empty fuel c none = ap (λ (f : ℕ). run_to stops commands f c) none

  -- what holds of a configuration at which the run stops, and is kept by each command at which it does not, holds where it comes
  pub along : (P : Configuration → Configuration → Type 0) → ((c : Configuration) → P c c)
      → ((c d : Configuration) (command : Command) → slice_get commands c.place ≡ Some command → stops command ≡ false → 0 < c.fuel → P (stepped commands c command) d → P c d)
      → (fuel : ℕ) (c : Configuration) → c.fuel ≡ fuel → P c (run_to stops commands fuel c)
  along P here on zero c is = here c
  along P here on (suc fuel) c is = go (slice_get commands c.place) refl (λ command. along P here on fuel (stepped commands c command) (one_fuel commands c command ∙ ap pred is))
    where
      kind : (command : Command) (b : Bool) → slice_get commands c.place ≡ Some command → stops command ≡ b → P (stepped commands c command) (run_to stops commands fuel (stepped commands c command)) → P c (at_kind fuel c command b)
      kind command true at stop next = here c
      kind command false at stop next = on c (run_to stops commands fuel (stepped commands c command)) command at stop (omega arith) next

      go : (o : Option Command) → slice_get commands c.place ≡ o → ((command : Command) → P (stepped commands c command) (run_to stops commands fuel (stepped commands c command))) → P c (at_command fuel c o)
      go None at next = here c
      go (Some command) at next = kind command (stops command) at refl (next command)

  -- with fuel left and a command at hand, it has stopped there
  pub stopped : (fuel : ℕ) (c : Configuration) (command : Command) → c.fuel ≡ fuel → 0 < (run_to stops commands fuel c).fuel → slice_get commands (run_to stops commands fuel c).place ≡ Some command → stops command ≡ true
  stopped zero c command is fuelled at = absurd (omega arith)
  stopped (suc fuel) c command is fuelled at = go (slice_get commands c.place) refl fuelled at (λ other. stopped fuel (stepped commands c other) command (one_fuel commands c other ∙ ap pred is))
    where
      kind : (other : Command) (b : Bool) → stops other ≡ b → slice_get commands c.place ≡ Some other → 0 < (at_kind fuel c other b).fuel → slice_get commands (at_kind fuel c other b).place ≡ Some command
          → (0 < (run_to stops commands fuel (stepped commands c other)).fuel → slice_get commands (run_to stops commands fuel (stepped commands c other)).place ≡ Some command → stops command ≡ true) → stops command ≡ true
      kind other true stop here fuelled at next = let same : other ≡ command = cc in ap stops (sym same) ∙ stop
      kind other false stop here fuelled at next = next fuelled at

      go : (o : Option Command) → slice_get commands c.place ≡ o → 0 < (at_command fuel c o).fuel → slice_get commands (at_command fuel c o).place ≡ Some command
          → ((other : Command) → 0 < (run_to stops commands fuel (stepped commands c other)).fuel → slice_get commands (run_to stops commands fuel (stepped commands c other)).place ≡ Some command → stops command ≡ true) → stops command ≡ true
      go None here fuelled at next = absurd (let none : None ≡ Some command = sym here ∙ at in cc)
      go (Some other) here fuelled at next = kind other (stops other) refl here fuelled at (next other)

pub is_told_if : (command : Command) (registers : List ℕ) (demand : Demand) → demand_of_command command registers ≡ Some demand → is_demand command ≡ true
is_told_if (Read to object) registers demand is = refl
is_told_if (Write object from) registers demand is = refl
is_told_if (Bump object from) registers demand is = refl
is_told_if Safe registers demand is = refl
is_told_if Pause registers demand is = refl
is_told_if _ registers demand is = absurd cc

pub not_told_if : (command : Command) (registers : List ℕ) → demand_of_command command registers ≡ None → is_demand command ≡ false
not_told_if (Read to object) registers is = absurd cc
not_told_if (Write object from) registers is = absurd cc
not_told_if (Bump object from) registers is = absurd cc
not_told_if Safe registers is = absurd cc
not_told_if Pause registers is = absurd cc
not_told_if _ registers is = refl

pub arrives_at_told : (commands : List Command) (c : Configuration) (command : Command) (demand : Demand) → slice_get commands c.place ≡ Some command → demand_of_command command c.registers ≡ Some demand → at_demand commands c ≡ c
arrives_at_told commands c command demand at is = stays_at is_demand commands c.fuel c command at (is_told_if command c.registers demand is)

pub arrives_past : (commands : List Command) (c : Configuration) → length commands ≤ c.place → at_demand commands c ≡ c
arrives_past commands c past = stays_past is_demand commands c.fuel c (slice_get_past commands c.place past)

pub arrives_on : (commands : List Command) (c : Configuration) (command : Command) → slice_get commands c.place ≡ Some command → demand_of_command command c.registers ≡ None → 0 < c.fuel → at_demand commands (stepped commands c command) ≡ at_demand commands c
arrives_on commands c command at is fuelled = goes_on is_demand commands c command at (not_told_if command c.registers is) fuelled

abbrev pub told_with : Command → List ℕ → ℕ → Demand
told_with command registers fuel = elim fuel [ zero ↦ Ended Spent | suc n ↦ unwrap_or (demand_of_command command registers) (Ended Spent) ]

pub tells : (command : Command) (c : Configuration) (demand : Demand) → 0 < c.fuel → demand_of_command command c.registers ≡ Some demand → demand_from (Some command) c ≡ demand
tells command c demand fuelled is =
    let n : c.fuel ≡ suc (pred c.fuel) = omega arith in
    ap (told_with command c.registers) n ∙ ap (λ (o : Option Demand). unwrap_or o (Ended Spent)) is

pub can_pass : (demand : Demand) (place fuel len : ℕ) → 0 < fuel → place < len → CanPass demand place fuel len
can_pass (Ended end) place fuel len fuelled within = tt
can_pass _ place fuel len fuelled within = (fuelled, within)

-- what a command demands names an object that is there, and a small value
possible_of : (objects : ℕ) (command : Command) (registers : List ℕ) → HasObject objects command → HasSmallValue (unwrap_or (demand_of_command command registers) (Ended Spent))
    → IsPossible objects (unwrap_or (demand_of_command command registers) (Ended Spent))
possible_of objects (Read to object) registers there small = there
possible_of objects (Write object from) registers there small = (there, small)
possible_of objects (Bump object from) registers there small = (there, small)
possible_of objects _ registers there small = tt

pub possible : (objects : ℕ) (commands : List Command) (at : Configuration) → All (HasObject objects) commands → (demand : Demand) → demand ≡ demand_from (slice_get commands at.place) at → HasSmallValue demand
    → IsPossible objects demand
possible objects commands at there demand is small = subst (IsPossible objects) (sym is) (go (slice_get commands at.place) refl (subst HasSmallValue is small))
  where
    by_fuel : (command : Command) (fuel : ℕ) → HasObject objects command → HasSmallValue (told_with command at.registers fuel) → IsPossible objects (told_with command at.registers fuel)
    by_fuel command zero has small' = tt
    by_fuel command (suc fuel) has small' = possible_of objects command at.registers has small'

    go : (o : Option Command) → slice_get commands at.place ≡ o → HasSmallValue (demand_from o at) → IsPossible objects (demand_from o at)
    go None is' small' = tt
    go (Some command) is' small' =
        by_fuel command at.fuel (subst (HasObject objects) (get_or_from_slice_get commands at.place command command is') (there at.place command (slice_get_within commands at.place command is'))) small'
