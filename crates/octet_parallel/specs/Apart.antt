-- Scripts of which no thread writes an object that another one names.
use Rattle.std.specs.Prelude.{◌≡◌, ◌≢◌, ◌<◌, ◌&&◌, ℕ, Bool, true, false, IsTrue, IsFalse}
use Rattle.std.specs.Prelude.{List, [], Some, None, get_or, slice_get}
use Rattle.octet_model.specs.declared.command.Access.{Access}
use Rattle.octet_model.specs.declared.command.Command.{Command}
use Rattle.octet_model.specs.declared.script.Script.{Script}
use Rattle.octet_model.specs.Thread.{access_of}
use Rattle.octet_model.specs.Orders.{commands_of}
use Rattle.octet_parallel.specs.declared.apart.Use.{Use}

-- one of the commands accesses the object
pub record Names (commands : List Command) (object : ℕ) : Type 0 where
  pub place : ℕ
  pub command : Command
  pub access : Access
  pub stands : slice_get commands place ≡ Some command
  pub accesses : access_of command ≡ Some access
  pub named : access.object ≡ object

-- one of the commands writes the object
pub record Writes (commands : List Command) (object : ℕ) : Type 0 where
  pub names : Names commands object
  pub writer : IsTrue names.access.writes

-- the threads are apart: no other thread names what a thread writes
abbrev pub AreApart : Script → Type 0
AreApart script = (thread other object : ℕ) → thread ≢ other
    → Writes (commands_of script thread) object → ¬ Names (commands_of script other) object

-- the use of an object, as far as it is kept
abbrev pub use_of : List Use → ℕ → Use
use_of uses object = get_or uses object (record { first = None; by_others = false; is_written = false })

-- the use that is kept of an object covers a write or a read by the thread
pub record Covers (kept : Use) (thread : ℕ) (writes : Bool) : Type 0 where
  pub named : kept.by_others ≡ false → kept.first ≡ Some thread
  pub written : writes ≡ true → kept.is_written ≡ true

-- two threads name the object
pub record AreTwoNaming (threads : List (List Command)) (object : ℕ) : Type 0 where
  pub one : ℕ
  pub other : ℕ
  pub differ : one ≢ other
  pub by_one : Names (get_or threads one []) object
  pub by_other : Names (get_or threads other []) object

-- the use that is kept of the object is seen in these threads
pub record IsSeenIn (threads : List (List Command)) (object : ℕ) (kept : Use) : Type 0 where
  pub named : (thread : ℕ) → kept.first ≡ Some thread → Names (get_or threads thread []) object
  pub by_two : kept.by_others ≡ true → AreTwoNaming threads object
  pub written : kept.is_written ≡ true → (thread : ℕ) × Writes (get_or threads thread []) object

-- the use that is kept of each object is seen in these threads
abbrev pub AreSeenIn : List (List Command) → List Use → Type 0
AreSeenIn threads uses = (object : ℕ) → IsSeenIn threads object (use_of uses object)

-- the use after has one more use, and all that the use before had
pub record AddsUse (before : Use) (thread : ℕ) (writes : Bool) (after : Use) : Type 0 where
  pub seen : (threads : List (List Command)) (object : ℕ) → Names (get_or threads thread []) object
      → (writes ≡ true → Writes (get_or threads thread []) object) → IsSeenIn threads object before
      → IsSeenIn threads object after
  pub kept : (other : ℕ) (wrote : Bool) → Covers before other wrote → Covers after other wrote
  pub added : Covers after thread writes

-- the command of the thread is known: if it is an access, the use kept of its object covers it
abbrev pub Knows : List Use → ℕ → Command → Type 0
Knows uses thread command = (access : Access) → access_of command ≡ Some access
    → Covers (use_of uses access.object) thread access.writes

-- all commands that were known before are known after
abbrev pub KeepsKnown : List Use → List Use → Type 0
KeepsKnown before after = (thread : ℕ) (command : Command) → Knows before thread command → Knows after thread command

-- a command of the thread was taken in
pub record TakesCommand (before : List Use) (thread : ℕ) (command : Command) (after : List Use) : Type 0 where
  pub seen : (threads : List (List Command)) (place : ℕ) → slice_get (get_or threads thread []) place ≡ Some command
      → AreSeenIn threads before → AreSeenIn threads after
  pub kept : KeepsKnown before after
  pub added : Knows after thread command

-- the thread's first `upto` commands were taken in
pub record TakesCommands (before : List Use) (thread : ℕ) (commands : List Command) (upto : ℕ) (after : List Use) : Type 0 where
  pub seen : (threads : List (List Command)) → get_or threads thread [] ≡ commands
      → AreSeenIn threads before → AreSeenIn threads after
  pub kept : KeepsKnown before after
  pub added : (place : ℕ) (command : Command) → place < upto → slice_get commands place ≡ Some command
      → Knows after thread command

-- all commands of the first `upto` threads are known
abbrev pub KnowsThreads : List Use → List (List Command) → ℕ → Type 0
KnowsThreads uses threads upto = (thread place : ℕ) (command : Command) → thread < upto
    → slice_get (get_or threads thread []) place ≡ Some command → Knows uses thread command

-- the object is not both written and named by several threads
abbrev pub IsUnshared : Use → Type 0
IsUnshared kept = IsFalse (kept.is_written && kept.by_others)
