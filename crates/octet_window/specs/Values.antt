-- The values that steps find, and those that they show of what was before them.
use Rattle.std.specs.Prelude.{◌≡◌, ℕ, List, [], ◌∷◌, slice_set}
use Rattle.octet_model.specs.declared.event.Event.{Event}
use Rattle.octet_model.specs.declared.event.Event.TheVariants.{Read, Write, Update, Marked}
use Rattle.octet_model.specs.Machine.{event_made, heap_after}
use Rattle.octet_model.specs.Plays.{operation_of}
use Rattle.octet_window.specs.declared.course.Step.{Step}

-- the values after steps
abbrev pub behind : List Step → List ℕ → List ℕ
behind [] values = values
behind (step ∷ steps) values = behind steps (heap_after (operation_of step.event) values)

-- from these values on each step has the values that its object has
abbrev pub Fit : List Step → List ℕ → Type 0
Fit [] values = Unit {0}
Fit (step ∷ steps) values = (event_made (operation_of step.event) values ≡ step.event) × Fit steps (heap_after (operation_of step.event) values)

-- what an event shows of the values before it: that of its object. Where it writes the object, nobody sees it
abbrev pub shown_by : Event → List ℕ → List ℕ
shown_by (Read object value) values = slice_set values object value
shown_by (Write object value) values = slice_set values object 0
shown_by (Update object before after) values = slice_set values object before
shown_by (Marked mark) values = values

-- what steps show of the values before them: of each object what its first access shows
abbrev pub shown_before : List Step → List ℕ → List ℕ
shown_before [] values = values
shown_before (step ∷ steps) values = shown_by step.event (shown_before steps values)
