-- What a thread makes between two fronts.
use Rattle.std.specs.Prelude.{◌≡◌, ◌⊎◌, ℕ, ◌-◌, ◌<◌, ◌≤◌, List, length}
use Rattle.octet_model.specs.declared.event.Event.{Event}
use Rattle.octet_tail.specs.declared.tail.Tail.{Tail}
use Rattle.octet_tail.specs.Merging.{merged, of_thread}
use Rattle.octet_tail.specs.Tails.{kept_in, IsLast, IsTail}
use Rattle.octet_window.specs.declared.notes.Notes.{Notes}
use Rattle.octet_window.specs.Noting.{events_of, notes_in}
use Rattle.octet_tail.specs.declared.fault.PartFault.{PartFault}
use Rattle.octet_tail.specs.declared.fault.PartFault.TheVariants.{OutOfMemory, Apart}
use Rattle.octet_tail.specs.declared.fronts.Fronts.{Fronts}
use Rattle.octet_tail.specs.declared.fronts.Span.{Span}
use Rattle.octet_tail.specs.declared.parts.Part.{Part}
use Rattle.octet_tail.specs.Between.{IsSpan}

-- how many accesses a span has
abbrev pub many_in : Span → ℕ
many_in span = span.upto - span.from

-- the accesses of a thread between the fronts, no more than so many
pub record IsPart (fronts : Fronts) (thread made last : ℕ) (part : Part) : Type 0 where
  pub is : IsSpan fronts thread made part.span
  pub inside : part.span.from ≤ part.span.upto
  pub few : many_in part.span ≤ last

-- of the accesses that the tail was given the part has the last ones, so many
abbrev pub HasLast : Tail → Part → Type 0
HasLast tail part = (accesses : List Event) → IsTail accesses tail → IsLast accesses (many_in part.span) part.accesses

-- the first front lies behind what the thread has made, or more accesses come after it than are wanted, or than are kept
pub record IsApart (fronts : Fronts) (thread made last : ℕ) (tail : Tail) : Type 0 where
  pub span : Span
  pub is : IsSpan fronts thread made span
  pub why : (span.upto < span.from) ⊎ (last < many_in span) ⊎ (length (kept_in tail) < many_in span)

-- why a thread has no part
abbrev pub HasNoPart : Fronts → ℕ → ℕ → ℕ → Tail → PartFault → Type 0
HasNoPart fronts thread made last tail Apart = IsApart fronts thread made last tail
HasNoPart fronts thread made last tail OutOfMemory = Unit {0}

-- the notes of a thread are these accesses, and its marks between the fronts, each as it stands after the first one
abbrev pub AreNotes : Fronts → ℕ → Span → List Event → Notes → Type 0
AreNotes fronts thread span accesses notes = events_of (notes_in notes) ≡ merged fronts.before span.from accesses (of_thread thread fronts.behind fronts.marks)
