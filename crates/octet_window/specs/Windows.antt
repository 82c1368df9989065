-- A window of a run as a script, with its log and its outcome.
use Rattle.std.specs.Prelude.{◌≡◌, ℕ, ◌*◌, ◌<◌, ◌≤◌, ◌++◌, true, false, List, [], ◌∷◌, length, map, max, get_or, codes}
use Rattle.std.specs.Fmt.{decimal}
use Rattle.octet_model.specs.declared.command.Command.{Command}
use Rattle.octet_model.specs.declared.limits.TheConstants.{MAX_FUEL, MAX_OBJECTS}
use Rattle.octet_model.specs.declared.log.ThreadLog.{ThreadLog}
use Rattle.octet_model.specs.declared.script.Script.{Script}
use Rattle.octet_model.specs.Machine.{Journals, journal_of}
use Rattle.octet_model.specs.Orders.{journals_after, IsLawfulOrder}
use Rattle.octet_model.specs.Plays.{state_after_play, IsOneHistory, MakesAll}
use Rattle.octet_model.specs.Script.{is_thread}
use Rattle.octet_window.specs.declared.notes.Note.{Note}
use Rattle.octet_window.specs.declared.notes.Notes.{Notes}
use Rattle.octet_window.specs.declared.refusal.Refusal.{Refusal}
use Rattle.octet_window.specs.declared.refusal.Refusal.TheVariants.{ManyObjects, ManyLines, NoHistory, OutOfMemory}
use Rattle.octet_window.specs.Noting.{has, program_of, renamed, events_of, notes_in, touched_in}
use Rattle.octet_window.specs.Fronts.{front_at, rest_of, AreBeginnings}
use Rattle.octet_window.specs.Histories.{noted, HasNoHistory}
use Rattle.octet_window.specs.Ordering.{accesses_in}
use Rattle.octet_window.specs.Playing.{all_renamed}

-- the most lines that a program has
abbrev pub most_lines : List (List Command) → ℕ
most_lines [] = 0
most_lines (program ∷ programs) = max (length program) (most_lines programs)

-- no object stands twice
abbrev pub AreDifferent : List ℕ → Type 0
AreDifferent [] = Unit {0}
AreDifferent (object ∷ objects) = (has objects object ≡ false) × AreDifferent objects

-- the programs of all threads, with the places of their objects among these
abbrev pub programs_of : List ℕ → List Notes → List (List Command)
programs_of objects threads = map program_of (all_renamed objects threads)

-- the name of an object by its number in the run
abbrev pub name_of : ℕ → List ℕ
name_of object = codes "o" ++ decimal object

-- the script has these objects of the run, named by their numbers, and these programs
pub record IsScriptWith (objects : List ℕ) (programs : List (List Command)) (script : Script) : Type 0 where
  pub names : map (λ object. object.name) script.objects ≡ map name_of objects
  pub threads : script.threads ≡ programs
  pub lines : most_lines programs ≤ script.fuel

-- the objects are those that the threads access, each once, and the script has them and the threads' programs
pub record IsWindowOf (threads : List Notes) (objects : List ℕ) (script : Script) : Type 0 where
  pub touched : objects ≡ touched_in [] threads
  pub different : AreDifferent objects
  pub script_ : IsScriptWith objects (programs_of objects threads) script

-- what is noted of a thread
abbrev pub noted_by : List Notes → ℕ → List Note
noted_by threads thread = get_or (map notes_in threads) thread []

-- what is noted of all threads
abbrev pub all_noted : List Notes → Journals
all_noted threads = noted (map notes_in threads)

-- in each lawful order of the script and the log the threads make the accesses that are noted of them, with the same values
abbrev pub MakesNoted : List Notes → List ℕ → Script → List ThreadLog → Type 0
MakesNoted threads objects script log = (order : List ℕ) → IsLawfulOrder script log order → (thread : ℕ)
    → accesses_in (journal_of (journals_after script log order) thread) ≡ map (renamed objects) (accesses_in (events_of (noted_by threads thread)))

-- each of these objects has a value
abbrev pub HaveValues : List ℕ → List ℕ → Type 0
HaveValues values objects = (object : ℕ) → has objects object ≡ true → object < length values

-- what is noted has no one history, whatever values the objects have at first
abbrev pub HasNoValues : List ℕ → List Notes → Type 0
HasNoValues objects threads = (values : List ℕ) → HaveValues values objects → HasNoHistory values (all_noted threads)

-- why there is no window
abbrev pub IsRefused : List Notes → Refusal → Type 0
IsRefused threads (ManyObjects objects) = (objects ≡ length (touched_in [] threads)) × (MAX_OBJECTS < objects)
IsRefused threads (ManyLines lines) = (lines ≡ most_lines (programs_of (touched_in [] threads) threads)) × (MAX_FUEL < length threads * lines)
IsRefused threads NoHistory = HasNoValues (touched_in [] threads) threads
IsRefused threads OutOfMemory = Unit {0}

-- all that the threads of a recorded run make after a front is never refused for want of a history
abbrev pub RestIsNotRefused : Type 0
RestIsNotRefused = (starts : List ℕ) (whole earlier : Journals) (last : List ℕ) (draws : ℕ) (play : List ℕ) (threads : List Notes)
    → IsOneHistory starts whole last draws → AreBeginnings earlier whole → MakesAll starts earlier play
    → let at = state_after_play starts earlier play in
    all_noted threads ≡ rest_of (front_at earlier at.draws) whole → HaveValues at.heap (touched_in [] threads) → IsRefused threads NoHistory → ⊥

-- each program is a valid thread, of a script with so many objects
abbrev pub AreThreads : ℕ → List (List Command) → Type 0
AreThreads objects [] = Unit {0}
AreThreads objects (program ∷ programs) = (is_thread objects program ≡ true) × AreThreads objects programs
