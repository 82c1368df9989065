-- What C is told of windows.
use Rattle.std.specs.Prelude.{◌≡◌, ◌⊎◌, ℤ, ◌<◌, [], length, Option, Some, None, Result, Ok, Err}
use Rattle.octet_model.specs.declared.limits.TheConstants.{MAX_THREADS}
use Rattle.octet_window.specs.declared.refusal.Refusal.TheVariants as refusals
use Rattle.octet_tail.specs.declared.found.Found.{Found}
use Rattle.octet_tail.specs.declared.search.Search.{Search}
use Rattle.octet_tail.specs.declared.window.WindowFault.{WindowFault}
use Rattle.octet_tail.specs.declared.window.WindowFault.TheVariants as faults
use Rattle.octet_tail.specs.Searches.{HasSearched}
use Rattle.octet_tail.specs.Windows.{AreTexts, HasNoWindow}
use Rattle.octet_host_long.specs.declared.following.ClosedAgain.{ClosedAgain}
use Rattle.octet_c.specs.declared.handle.Handle.{Handle}
use Rattle.octet_c.specs.declared.held.Held.{Held}
use Rattle.octet_c.specs.declared.held.Held.TheVariants as held
use Rattle.octet_c.specs.declared.status.Fault.{Fault}
use Rattle.octet_c.specs.declared.status.Fault.TheVariants.{OutOfMemory, NoNotes, OtherKind, OtherRun, TooLong}
use Rattle.octet_c.specs.declared.status.TheConstants as status
use Rattle.octet_c.specs.declared.window.Window.TheVariants as window
use Rattle.octet_c.specs.Faults.{fault_status}

-- what was made is behind the handle; or it is as before, since nothing was made, or memory was refused
abbrev pub PutsMade : Result Held Fault → Handle → ℤ → Handle → Type 0
PutsMade (Ok made) before said after = ((said ≡ status.READY) × (after.held ≡ Some made)) ⊎ ((said ≡ status.NO_MEMORY) × (after ≡ before))
PutsMade (Err fault) before said after = (said ≡ fault_status fault) × (after ≡ before)

-- the search for the accesses that were noted, which was fed nothing
pub record IsSearchOf (it : ClosedAgain) (search : Search) : Type 0 where
  pub made : search.made ≡ it.made
  pub last : search.last ≡ it.last
  pub nothing : HasSearched [] [] search

-- none were to be noted, or no run has so many threads
abbrev pub HasNoNotes : ClosedAgain → Type 0
HasNoNotes it = (it.last ≡ 0) ⊎ (length it.made ≡ 0) ⊎ (MAX_THREADS < length it.made)

-- a search begins, and the notes are taken for it
abbrev pub SearchesFor : ClosedAgain → Result Held Fault → ClosedAgain → Type 0
SearchesFor it (Ok (held.Window (window.Search search))) that = IsSearchOf it search × (that ≡ record { values = it.values; made = []; last = 0 })
SearchesFor it (Err OutOfMemory) that = that ≡ record { values = it.values; made = []; last = 0 }
SearchesFor it (Err NoNotes) that = HasNoNotes it × (that ≡ it)
SearchesFor it _ that = ⊥

-- so by what is held, if a run has left it that was made again
abbrev pub BeginsSearch : Held → Result Held Fault → Held → Type 0
BeginsSearch (held.Again it) made (held.Again that) = SearchesFor it made that
BeginsSearch (held.Again it) made _ = ⊥
BeginsSearch before made after = (made ≡ Err OtherKind) × (after ≡ before)

-- and by what is behind a handle
abbrev pub SearchesBy : Option Held → Handle → ℤ → Option Held → Handle → Type 0
SearchesBy None before said after next = (said ≡ status.NO_RECORD) × (after ≡ None) × (next ≡ before)
SearchesBy (Some it) before said (Some that) next = (made : Result Held Fault) × BeginsSearch it made that × PutsMade made before said next
SearchesBy (Some it) before said None next = ⊥

-- why there is no window, in the words of this library: it is too long for a script, or the marks are of another run
abbrev pub window_fault : WindowFault → Fault
window_fault faults.OutOfMemory = OutOfMemory
window_fault faults.TooLong = TooLong
window_fault (faults.Refused (refusals.ManyObjects objects)) = TooLong
window_fault (faults.Refused (refusals.ManyLines lines)) = TooLong
window_fault (faults.Refused refusals.OutOfMemory) = OutOfMemory
window_fault (faults.Refused refusals.NoHistory) = OtherRun

-- what was found has no window
pub record LacksWindow (found : Found) (fault : Fault) : Type 0 where
  pub why : WindowFault
  pub none : HasNoWindow found.fronts found.parts why
  pub is : fault ≡ window_fault why

-- the script of what was found, and its log
abbrev pub Windows : Found → Result Held Fault → Type 0
Windows found (Ok (held.Window (window.Made texts))) = AreTexts found.fronts found.parts texts
Windows found (Ok _) = ⊥
Windows found (Err fault) = LacksWindow found fault

-- they are made, if something is found
abbrev pub BeginsWindow : Held → Result Held Fault → Type 0
BeginsWindow (held.Window (window.Found found)) made = Windows found made
BeginsWindow _ made = made ≡ Err OtherKind

-- and put behind a handle
abbrev pub WindowsBy : Option Held → Handle → ℤ → Handle → Type 0
WindowsBy None before said after = (said ≡ status.NO_STREAM) × (after ≡ before)
WindowsBy (Some it) before said after = (made : Result Held Fault) × BeginsWindow it made × PutsMade made before said after
