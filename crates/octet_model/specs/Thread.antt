-- How one thread of a script runs by itself.
use Rattle.std.specs.Prelude.{◌≡◌, ℕ, zero, suc, pred, ◌+◌, ◌-◌, ◌*◌, ◌%◌, ◌^◌, Bool, true, false, if◌then◌else◌, ◌==◌, ◌&&◌, nat_lt, bit_xor, List, [], ◌∷◌, drop, replicate, Option, Some, None, is_some, slice_get, slice_index, slice_set}
use Rattle.octet_model.specs.declared.command.Access.{Access}
use Rattle.octet_model.specs.declared.command.Command.{Command}
use Rattle.octet_model.specs.declared.command.Command.TheVariants.{Set, Copy, Add, Sub, Mul, Xor, Less, Same, Read, Write, Bump, Loop, Branch, Close}
use Rattle.octet_model.specs.declared.event.Event.{Event}
use Rattle.octet_model.specs.declared.event.Event.TheVariants.{Read, Write, Update, Marked}
use Rattle.octet_model.specs.declared.limits.TheConstants.{REGISTERS}
use Rattle.octet_model.specs.declared.outcome.End.{End}
use Rattle.octet_model.specs.declared.outcome.End.TheVariants.{Done, Spent}

-- the configuration of a thread: its place among its commands, its registers, and the fuel left
pub record Configuration : Type 0 where
  pub place : ℕ
  pub registers : List ℕ
  pub fuel : ℕ

-- the configuration at the start: at place 0, all registers 0, and this fuel
abbrev pub starting_configuration : ℕ → Configuration
starting_configuration fuel = record { place = 0; registers = replicate REGISTERS 0; fuel = fuel }

-- what a thread demands, with safe points and pauses left out: a read, a write of a value,
-- an amount to be added to an object, or its end
pub data AccessOrEnd : Type 0 where
  ToRead : (object : ℕ) → AccessOrEnd
  ToWrite : (object value : ℕ) → AccessOrEnd
  ToBump : (object amount : ℕ) → AccessOrEnd
  ToEnd : (end : End) → AccessOrEnd

-- the test whether a command opens a loop or a branch
abbrev pub is_opener : Command → Bool
is_opener (Loop test) = true
is_opener (Branch test) = true
is_opener _ = false

-- the place at which the last of `depth` open openers is closed, from this place on
abbrev pub end_from : ℕ → ℕ → List Command → ℕ
end_from depth place [] = place
end_from depth place (Loop test ∷ commands) = end_from (suc depth) (suc place) commands
end_from depth place (Branch test ∷ commands) = end_from (suc depth) (suc place) commands
end_from zero place (Close ∷ commands) = place
end_from (suc zero) place (Close ∷ commands) = place
end_from (suc (suc depth)) place (Close ∷ commands) = end_from (suc depth) (suc place) commands
end_from depth place (command ∷ commands) = end_from depth (suc place) commands

-- the place of the closer that ends the opener at a place
abbrev pub matching_end : List Command → ℕ → ℕ
matching_end commands place = end_from 0 place (drop place commands)

-- the test whether an opener stands at the place, with its closer at `end`
abbrev pub is_opened_at : List Command → ℕ → ℕ → Bool
is_opened_at commands place end = elim (slice_get commands place) [ None ↦ false | Some command ↦ is_opener command && (matching_end commands place == end) ]

-- the last opener before this place whose closer is at `end`
abbrev pub matching_opener : List Command → ℕ → ℕ → ℕ
matching_opener commands end zero = zero
matching_opener commands end (suc place) = elim (is_opened_at commands place end) [ true ↦ place | false ↦ matching_opener commands end place ]

-- the place after a closer: the opener of a loop again, or the command after the closer of a branch
abbrev pub place_past_end : Option Command → ℕ → ℕ → ℕ
place_past_end (Some (Loop test)) opener end = opener
place_past_end _ opener end = suc end

-- the place to which the closer at a place leads
abbrev pub place_after_close : List Command → ℕ → ℕ
place_after_close commands end = place_past_end (slice_get commands (matching_opener commands end end)) (matching_opener commands end end) end

-- the configuration at this place, with one fuel less
abbrev pub moved_to : Configuration → ℕ → Configuration
moved_to c place = record { place = place; registers = c.registers; fuel = pred c.fuel }

-- the configuration at the next place, with one fuel less and this value in a register
abbrev pub with_register : Configuration → ℕ → ℕ → Configuration
with_register c to value = record { place = suc c.place; registers = slice_set c.registers to value; fuel = pred c.fuel }

-- the configuration after an opener: past its closer where the register is 0, else at the next place
abbrev pub branched : List Command → Configuration → ℕ → Configuration
branched commands c test = moved_to c (if slice_index c.registers test == 0 then suc (matching_end commands c.place) else suc c.place)

-- the configuration after one command that is no access
abbrev pub stepped : List Command → Configuration → Command → Configuration
stepped commands c (Set to number) = with_register c to number
stepped commands c (Copy to from) = with_register c to (slice_index c.registers from)
stepped commands c (Add to left right) = with_register c to ((slice_index c.registers left + slice_index c.registers right) % 2 ^ 64)
stepped commands c (Sub to left right) = with_register c to ((slice_index c.registers left + 2 ^ 64 - slice_index c.registers right) % 2 ^ 64)
stepped commands c (Mul to left right) = with_register c to ((slice_index c.registers left * slice_index c.registers right) % 2 ^ 64)
stepped commands c (Xor to left right) = with_register c to (bit_xor (slice_index c.registers left) (slice_index c.registers right))
stepped commands c (Less to left right) = with_register c to (if nat_lt (slice_index c.registers left) (slice_index c.registers right) then 1 else 0)
stepped commands c (Same to left right) = with_register c to (if slice_index c.registers left == slice_index c.registers right then 1 else 0)
stepped commands c (Loop test) = branched commands c test
stepped commands c (Branch test) = branched commands c test
stepped commands c Close = moved_to c (place_after_close commands c.place)
stepped commands c _ = moved_to c (suc c.place)

-- the access that a command makes, if it makes one
abbrev pub access_of : Command → Option Access
access_of (Read to object) = Some (record { object = object; writes = false })
access_of (Write object from) = Some (record { object = object; writes = true })
access_of (Bump object from) = Some (record { object = object; writes = true })
access_of _ = None

-- the test whether a command is an access
abbrev pub is_access : Command → Bool
is_access command = is_some (access_of command)

-- the configuration at the first command that stops the run, or after as many commands as `fuel` allows
abbrev pub run_to : (Command → Bool) → List Command → ℕ → Configuration → Configuration
run_to stops commands zero c = c
run_to stops commands (suc fuel) c =
    elim (slice_get commands c.place) [
      | None ↦ c
      | Some command ↦ elim (stops command) [ true ↦ c | false ↦ run_to stops commands fuel (stepped commands c command) ]
    ]

-- the configuration after all commands before the next access or the thread's end
abbrev pub settled : List Command → Configuration → Configuration
settled commands c = run_to is_access commands c.fuel c

-- what a configuration demands at its command. Without fuel, it demands the end Spent
abbrev pub demand_at : Option Command → Configuration → AccessOrEnd
demand_at None c = ToEnd Done
demand_at (Some (Read to object)) c = elim c.fuel [ zero ↦ ToEnd Spent | suc fuel ↦ ToRead object ]
demand_at (Some (Write object from)) c = elim c.fuel [ zero ↦ ToEnd Spent | suc fuel ↦ ToWrite object (slice_index c.registers from) ]
demand_at (Some (Bump object from)) c = elim c.fuel [ zero ↦ ToEnd Spent | suc fuel ↦ ToBump object (slice_index c.registers from) ]
demand_at (Some _) c = ToEnd Spent

-- what a configuration demands after all commands that are no access
abbrev pub demanded : List Command → Configuration → AccessOrEnd
demanded commands c = let d = settled commands c in demand_at (slice_get commands d.place) d

-- the configuration after the access. A read puts the value into its register
abbrev pub past_access : Option Command → Configuration → ℕ → Configuration
past_access (Some (Read to object)) c value = with_register c to value
past_access _ c value = moved_to c (suc c.place)

-- the configuration after the access that it demands, with the value that a read gave
abbrev pub past_demanded : List Command → Configuration → ℕ → Configuration
past_demanded commands c value = let d = settled commands c in past_access (slice_get commands d.place) d value

-- the configuration after all accesses of a journal
abbrev pub configuration_after : List Command → Configuration → List Event → Configuration
configuration_after commands c [] = c
configuration_after commands c (Read object value ∷ journal) = configuration_after commands (past_demanded commands c value) journal
configuration_after commands c (Write object value ∷ journal) = configuration_after commands (past_demanded commands c value) journal
configuration_after commands c (Update object before after ∷ journal) = configuration_after commands (past_demanded commands c after) journal
configuration_after commands c (Marked mark ∷ journal) = configuration_after commands c journal

-- the sum of a value and an amount, in 64 bits
abbrev pub added : ℕ → ℕ → ℕ
added amount value = (value + amount) % 2 ^ 64

-- the demand is an update of the object, and the value after is the value before and the amount
abbrev pub FitsUpdate : AccessOrEnd → ℕ → ℕ → ℕ → Type 0
FitsUpdate demand object before after = (amount : ℕ) × (demand ≡ ToBump object amount) × (after ≡ added amount before)

-- the accesses of the journal, in order, are what the configuration demands
abbrev pub FitsFrom : List Command → Configuration → List Event → Type 0
FitsFrom commands c [] = Unit {0}
FitsFrom commands c (Read object value ∷ journal) = (demanded commands c ≡ ToRead object) × FitsFrom commands (past_demanded commands c value) journal
FitsFrom commands c (Write object value ∷ journal) = (demanded commands c ≡ ToWrite object value) × FitsFrom commands (past_demanded commands c value) journal
FitsFrom commands c (Update object before after ∷ journal) = FitsUpdate (demanded commands c) object before after × FitsFrom commands (past_demanded commands c after) journal
FitsFrom commands c (Marked mark ∷ journal) = FitsFrom commands c journal

-- the journal fits the configuration, and the thread is at its end after the journal
abbrev pub FitsToEnd : List Command → Configuration → List Event → Type 0
FitsToEnd commands c journal = FitsFrom commands c journal × ((end : End) × (demanded commands (configuration_after commands c journal) ≡ ToEnd end))
