-- The straight-line program of the accesses of a journal.
use Rattle.std.specs.Prelude.{◌≡◌, ℕ, ◌^◌, ◌<◌, ◌≤◌, Bool, true, false, IsTrue, List, [], ◌∷◌, ◌++◌, length}
use Rattle.octet_model.specs.declared.command.Command.{Command}
use Rattle.octet_model.specs.declared.command.Command.TheVariants as command
use Rattle.octet_model.specs.declared.event.Event.{Event}
use Rattle.octet_model.specs.declared.event.Event.TheVariants.{Read, Write, Update, Marked}
use Rattle.octet_model.specs.declared.outcome.End.TheVariants.{Done}
use Rattle.octet_model.specs.Journals.{access_count}
use Rattle.octet_model.specs.Script.{is_thread}
use Rattle.octet_model.specs.Thread.{Configuration, ToEnd, added, starting_configuration, demanded, configuration_after, FitsFrom}

-- a region line before what follows, where a region begins there
abbrev pub region_lines : Bool → List Command
region_lines true = command.Region ∷ []
region_lines false = []

-- the lines of a read, whose value goes to register 1
abbrev pub read_lines : ℕ → List Command
read_lines object = command.Read 1 object ∷ []

-- the lines of a write, whose value comes from register 0
abbrev pub write_lines : ℕ → ℕ → List Command
write_lines object value = command.Set 0 value ∷ command.Write object 0 ∷ []

-- the lines of an update that adds an amount, which comes from register 0
abbrev pub bump_lines : ℕ → ℕ → List Command
bump_lines object amount = command.Set 0 amount ∷ command.Bump object 0 ∷ []

-- the program begins with these lines, before which a region may begin, and goes on with the rest
pub record Begins (program lines rest : List Command) : Type 0 where
  pub region : Bool
  pub is : program ≡ region_lines region ++ (lines ++ rest)

-- an object that is there, and a value of 64 bits
abbrev pub IsWithin : ℕ → ℕ → ℕ → Type 0
IsWithin objects object value = (object < objects) × (value < 2 ^ 64)

-- the program has the lines of each access of the journal, in order, and no other. Of each access this holds,
-- of its object and of the value that it writes or the amount that it adds
abbrev pub IsProgramWith : (ℕ → ℕ → Type 0) → List Command → List Event → Type 0
IsProgramWith Holds program [] = program ≡ []
IsProgramWith Holds program (Read object value ∷ journal) =
    (rest : List Command) × Holds object 0 × Begins program (read_lines object) rest × IsProgramWith Holds rest journal
IsProgramWith Holds program (Write object value ∷ journal) =
    (rest : List Command) × Holds object value × Begins program (write_lines object value) rest × IsProgramWith Holds rest journal
IsProgramWith Holds program (Update object before after ∷ journal) =
    (rest : List Command) × (amount : ℕ) × Holds object amount × (after ≡ added amount before) × Begins program (bump_lines object amount) rest × IsProgramWith Holds rest journal
IsProgramWith Holds program (Marked mark ∷ journal) = IsProgramWith Holds program journal

-- the straight-line program of a journal, in a script with so many objects
abbrev pub IsProgramOf : ℕ → List Command → List Event → Type 0
IsProgramOf objects program journal = IsProgramWith (IsWithin objects) program journal

-- the journal fits the commands from this configuration on, and no command is left after it
abbrev pub FitsAll : List Command → Configuration → List Event → Type 0
FitsAll commands c journal = FitsFrom commands c journal × (demanded commands (configuration_after commands c journal) ≡ ToEnd Done)

-- a journal fits its program, which is done after it, where there is a unit of fuel for each line
abbrev pub ProgramFits : Type 0
ProgramFits = (objects fuel : ℕ) (program : List Command) (journal : List Event)
    → IsProgramOf objects program journal → length program ≤ fuel → FitsAll program (starting_configuration fuel) journal

-- a program has a line for each access at least
abbrev pub ProgramIsLong : Type 0
ProgramIsLong = (objects : ℕ) (program : List Command) (journal : List Event) → IsProgramOf objects program journal → access_count journal ≤ length program

-- a program is a valid thread of a script with so many objects
abbrev pub ProgramIsValid : Type 0
ProgramIsValid = (objects : ℕ) (program : List Command) (journal : List Event) → IsProgramOf objects program journal → IsTrue (is_thread objects program)

-- a program followed by that of later events is the program of both journals together
abbrev pub ProgramsJoin : Type 0
ProgramsJoin = (objects : ℕ) (program more : List Command) (journal later : List Event)
    → IsProgramOf objects program journal → IsProgramOf objects more later → IsProgramOf objects (program ++ more) (journal ++ later)
