-- What is kept of a run, and copied of it.
use Rattle.std.specs.Prelude.{◌≡◌, ◌⊎◌, ℕ, ℤ, List, [], length, Option, Some}
use Rattle.octet_model.specs.Orders.{starting_heap}
use Rattle.octet_model.specs.declared.script.Script.{Script}
use Rattle.octet_script.specs.Spelling.{Spells}
use Rattle.octet_c.specs.declared.held.Held.{Held}
use Rattle.octet_c.specs.declared.held.Held.TheVariants as held
use Rattle.octet_c.specs.declared.status.Fault.{Fault}
use Rattle.octet_c.specs.declared.status.TheConstants as status
use Rattle.octet_c.specs.declared.window.Window.TheVariants as window
use Rattle.octet_c.specs.Faults.{fault_status}
use Rattle.octet_c.specs.Opened.{RefusesToOpen}
use Rattle.octet_c.specs.Statuses.{said_of_lack}
use Rattle.octet_tail.specs.declared.texts.Texts.{Texts}
use Rattle.octet_host.specs.Copies.{copied}
use Rattle.octet_host_script.specs.declared.kept.Kept.{Kept}

-- nothing is copied of what is behind a handle
abbrev pub CopiesNothing : {X : Type 0} → Option Held → ℤ → List X → List X → ℕ → ℕ → Type 0
CopiesNothing it said room out before size = (said ≡ said_of_lack status.NO_RECORD it) × (out ≡ room) × (size ≡ before)

-- as much of a list is copied as there is room for, and its length is told
abbrev pub CopiesAll : {X : Type 0} → List X → ℤ → List X → List X → ℕ → Type 0
CopiesAll all said room out size = (said ≡ status.READY) × (out ≡ copied all room) × (size ≡ length all)

-- what is copied of a script and its log, if they are there
abbrev pub CopiesOf : (Kept → List ℕ) → (Texts → List ℕ) → Option Held → ℤ → List ℕ → List ℕ → ℕ → ℕ → Type 0
CopiesOf part text (Some (held.Kept kept)) said room out before size = CopiesAll (part kept) said room out size
CopiesOf part text (Some (held.Window (window.Made texts))) said room out before size = CopiesAll (text texts) said room out size
CopiesOf part text it said room out before size = CopiesNothing it said room out before size

-- what is copied of values, if they are there
abbrev pub CopiesValues : Option Held → ℤ → List ℕ → List ℕ → ℕ → ℕ → Type 0
CopiesValues (Some (held.Kept kept)) said room out before size = CopiesAll kept.values said room out size
CopiesValues (Some (held.Values kept)) said room out before size = CopiesAll kept.values said room out size
CopiesValues (Some (held.Again again)) said room out before size = CopiesAll again.values said room out size
CopiesValues (Some (held.Window (window.Made texts))) said room out before size = CopiesAll [] said room out size
CopiesValues it said room out before size = CopiesNothing it said room out before size

-- the text spells a script whose objects have these starting values
abbrev pub AreStarts : List ℕ → List ℕ → Type 0
AreStarts text starts = (script : Script) × Spells text script × (starts ≡ starting_heap script)

-- they are copied; or there are none, and nothing is
abbrev pub CopiesStarts : List ℕ → ℤ → List ℕ → List ℕ → ℕ → ℕ → Type 0
CopiesStarts text said room out before size =
    ((starts : List ℕ) × AreStarts text starts × CopiesAll starts said room out size)
    ⊎ ((fault : Fault) × RefusesToOpen text fault × (said ≡ fault_status fault) × (out ≡ room) × (size ≡ before))
