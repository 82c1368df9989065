-- What threads make between two fronts, as a script with its log.
use Rattle.std.specs.Prelude.{◌≡◌, ℕ, suc, List, [], ◌∷◌}
use Rattle.octet_model.specs.Orders.{starting_heap, IsFaithful}
use Rattle.octet_tail.specs.declared.texts.Texts.{Texts}
use Rattle.octet_tail.specs.declared.texts.Unwritten.{Unwritten}
use Rattle.octet_tail.specs.declared.texts.Unwritten.TheVariants as unwritten
use Rattle.octet_tail.specs.Texts.{IsTexts, IsUnwritten}
use Rattle.octet_window.specs.declared.closing.Window.{Window}
use Rattle.octet_window.specs.declared.notes.Notes.{Notes}
use Rattle.octet_window.specs.declared.refusal.Refusal.{Refusal}
use Rattle.octet_window.specs.declared.refusal.Refusal.TheVariants as refusals
use Rattle.octet_window.specs.Histories.{noted, HasHistory}
use Rattle.octet_window.specs.Playing.{all_renamed}
use Rattle.octet_window.specs.Windows.{IsRefused, IsWindowOf, MakesNoted}
use Rattle.octet_tail.specs.declared.fronts.Fronts.{Fronts}
use Rattle.octet_tail.specs.declared.parts.Part.{Part}
use Rattle.octet_tail.specs.declared.window.WindowFault.{WindowFault}
use Rattle.octet_tail.specs.declared.window.WindowFault.TheVariants.{OutOfMemory, Refused, TooLong}
use Rattle.octet_tail.specs.Parts.{AreNotes}

-- the notes of the threads from this number on, one after another
abbrev pub AreNoted : Fronts → List Part → ℕ → List Notes → Type 0
AreNoted fronts [] thread notes = notes ≡ []
AreNoted fronts (part ∷ parts) thread notes =
    (one : Notes) × (rest : List Notes) × (notes ≡ one ∷ rest) × AreNotes fronts thread part.span part.accesses one × AreNoted fronts parts (suc thread) rest

-- a script in which each thread makes what is noted of it. With its log it is a faithful recording, and from its values on what
-- is noted has a history
pub record IsWindow (notes : List Notes) (window : Window) : Type 0 where
  pub faithful : IsFaithful window.script window.log.threads window.outcome
  pub has : IsWindowOf notes window.objects window.script
  pub makes : MakesNoted notes window.objects window.script window.log.threads
  pub history : HasHistory (starting_heap window.script) (noted (all_renamed window.objects notes))

-- the texts are those of the window that has the accesses and the marks between the fronts
pub record AreTexts (fronts : Fronts) (parts : List Part) (texts : Texts) : Type 0 where
  pub notes : List Notes
  pub window : Window
  pub noted : AreNoted fronts parts 0 notes
  pub is : IsWindow notes window
  pub spell : IsTexts window texts

-- what the threads make between the fronts is refused
pub record IsNoWindow (fronts : Fronts) (parts : List Part) (refusal : Refusal) : Type 0 where
  pub notes : List Notes
  pub noted : AreNoted fronts parts 0 notes
  pub refused : IsRefused notes refusal

-- the window is longer than its files may be
pub record IsTooLong (fronts : Fronts) (parts : List Part) : Type 0 where
  pub notes : List Notes
  pub window : Window
  pub noted : AreNoted fronts parts 0 notes
  pub is : IsWindow notes window
  pub long : IsUnwritten window unwritten.TooLong

-- why there is no window
abbrev pub HasNoWindow : Fronts → List Part → WindowFault → Type 0
HasNoWindow fronts parts (Refused refusal) = IsNoWindow fronts parts refusal
HasNoWindow fronts parts TooLong = IsTooLong fronts parts
HasNoWindow fronts parts OutOfMemory = Unit {0}

-- the same fault, of a window that is refused
abbrev pub refused_fault : Refusal → WindowFault
refused_fault refusals.OutOfMemory = OutOfMemory
refused_fault (refusals.ManyObjects objects) = Refused (refusals.ManyObjects objects)
refused_fault (refusals.ManyLines lines) = Refused (refusals.ManyLines lines)
refused_fault refusals.NoHistory = Refused refusals.NoHistory

-- the same fault, of a window that has no files
abbrev pub unwritten_fault : Unwritten → WindowFault
unwritten_fault unwritten.TooLong = TooLong
unwritten_fault unwritten.OutOfMemory = OutOfMemory
