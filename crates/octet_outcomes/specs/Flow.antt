-- How a thread goes from place to place among its commands: what is read later, and what is accessed no more.
use Rattle.std.specs.Prelude.{◌≡◌, ℕ, suc, ◌<◌, ◌≤◌, ◌||◌, ◌==◌, Bool, true, false, List, [], ◌∷◌, length, get_or, Option, Some, None, slice_get}
use Rattle.octet_model.specs.declared.command.Command.{Command}
use Rattle.octet_model.specs.declared.command.Command.TheVariants.{Set, Copy, Add, Sub, Mul, Xor, Less, Same, Read, Write, Bump, Loop, Branch}
use Rattle.octet_model.specs.declared.limits.TheConstants.{REGISTERS}
use Rattle.octet_model.specs.Thread.{is_opener, end_from, matching_end, is_opened_at}
use Rattle.octet_model.specs.Validity.{is_closer}
use Rattle.octet_interp.specs.declared.demand.Demand.{Demand}
use Rattle.octet_interp.specs.declared.program.Stand.{Stand}
use Rattle.octet_interp.specs.Standing.{access_demand}
use Rattle.octet_outcomes.specs.Alone.{Conflicts}

-- past a command, so many openers are open; or it closes the last one
abbrev pub IsDepthAfter : Command → ℕ → Option ℕ → Type 0
IsDepthAfter command depth None = (place : ℕ) (commands : List Command) → end_from depth place (command ∷ commands) ≡ place
IsDepthAfter command depth (Some after) = (place : ℕ) (commands : List Command) → end_from depth place (command ∷ commands) ≡ end_from after (suc place) commands

-- where an opener stands at the place, this is the place of its closer
abbrev pub IsRightEnd : List Command → ℕ → ℕ → Type 0
IsRightEnd commands place end = (command : Command) → slice_get commands place ≡ Some command → is_opener command ≡ true → end ≡ matching_end commands place

-- for each opener the place of its closer
pub record AreEnds (commands : List Command) (ends : List ℕ) : Type 0 where
  pub len : length ends ≡ length commands
  pub right : (place : ℕ) → place < length commands → IsRightEnd commands place (get_or ends place 0)

-- some opener has its closer there
pub record IsOpened (commands : List Command) (end : ℕ) : Type 0 where
  pub opener : ℕ
  pub before : opener < end
  pub opens : is_opened_at commands opener end ≡ true

-- each closer has its opener
abbrev pub AreOpened : List Command → Type 0
AreOpened commands = (place : ℕ) (command : Command) → slice_get commands place ≡ Some command → is_closer command ≡ true → IsOpened commands place

-- the test whether a command opens a loop
abbrev pub is_loop : Command → Bool
is_loop (Loop test) = true
is_loop _ = false

-- the test whether a command reads a register
abbrev pub uses : Command → ℕ → Bool
uses (Copy to from) register = register == from
uses (Write object from) register = register == from
uses (Bump object from) register = register == from
uses (Loop test) register = register == test
uses (Branch test) register = register == test
uses (Add to left right) register = (register == left) || (register == right)
uses (Sub to left right) register = (register == left) || (register == right)
uses (Mul to left right) register = (register == left) || (register == right)
uses (Xor to left right) register = (register == left) || (register == right)
uses (Less to left right) register = (register == left) || (register == right)
uses (Same to left right) register = (register == left) || (register == right)
uses _ register = false

-- the register that a command sets
abbrev pub set_by : Command → Option ℕ
set_by (Set to number) = Some to
set_by (Copy to from) = Some to
set_by (Add to left right) = Some to
set_by (Sub to left right) = Some to
set_by (Mul to left right) = Some to
set_by (Xor to left right) = Some to
set_by (Less to left right) = Some to
set_by (Same to left right) = Some to
set_by (Read to object) = Some to
set_by _ = None

-- the test whether a table says that a register is live at a place
abbrev pub live_at : List (List Bool) → ℕ → ℕ → Bool
live_at live place register = get_or (get_or live place []) register false

-- the command at the place does not read the register, and at no place after it the register is live, unless the command sets it
pub record IsSpared (commands : List Command) (live : List (List Bool)) (place register : ℕ) : Type 0 where
  pub used : (command : Command) → slice_get commands place ≡ Some command → uses command register ≡ false
  pub on : (command : Command) → slice_get commands place ≡ Some command → live_at live (suc place) register ≡ true → set_by command ≡ Some register
  pub past : (command : Command) → slice_get commands place ≡ Some command → is_opener command ≡ true → live_at live (suc (matching_end commands place)) register ≡ false

-- a register is live at a place if it is read there or live at a place after it.
-- What is live at the head of a loop is so at its end
pub record IsLiveHere (commands : List Command) (live : List (List Bool)) (place register : ℕ) : Type 0 where
  pub spared : live_at live place register ≡ false → IsSpared commands live place register
  pub back : (command : Command) → slice_get commands place ≡ Some command → is_loop command ≡ true → live_at live place register ≡ true → live_at live (matching_end commands place) register ≡ true

-- so at each place
abbrev pub AreLive : List Command → List (List Bool) → Type 0
AreLive commands live = (place : ℕ) → place < length commands → (register : ℕ) → register < REGISTERS → IsLiveHere commands live place register

-- the same place, and the same values in the registers that are live there
pub record IsKept (live : List (List Bool)) (stand kept : Stand) : Type 0 where
  pub place : kept.place ≡ stand.place
  pub len : length kept.registers ≡ length stand.registers
  pub same : (register : ℕ) → live_at live stand.place register ≡ true → get_or kept.registers register 0 ≡ get_or stand.registers register 0

-- the command may make an access that conflicts with this one
abbrev pub MayConflict : Demand → Command → Type 0
MayConflict demand command = (registers : List ℕ) × ((other : Demand) × (access_demand command registers ≡ Some other) × Conflicts demand other)

-- no command from the place on may make an access that conflicts with this one, and no loop goes over the place
pub record IsQuietFrom (commands : List Command) (demand : Demand) (from : ℕ) : Type 0 where
  pub none : (place : ℕ) (command : Command) → from ≤ place → slice_get commands place ≡ Some command → MayConflict demand command → ⊥
  pub over : (place : ℕ) (command : Command) → place < from → slice_get commands place ≡ Some command → is_loop command ≡ true → matching_end commands place < from

-- the same of one place
pub record IsQuietAt (commands : List Command) (demand : Demand) (from place : ℕ) : Type 0 where
  pub none : (command : Command) → from ≤ place → slice_get commands place ≡ Some command → MayConflict demand command → ⊥
  pub over : (command : Command) → place < from → slice_get commands place ≡ Some command → is_loop command ≡ true → matching_end commands place < from
