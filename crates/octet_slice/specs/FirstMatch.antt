-- The first event of the lowest order that a test accepts.
use Rattle.std.specs.Prelude.{◌≡◌, Bool, true, false, List, ◌∷◌, ◌++◌}
use Rattle.std.specs.List.{All}
use Rattle.octet_model.specs.declared.event.Event.{Event}
use Rattle.octet_model.specs.declared.event.Place.{Place}
use Rattle.octet_slice.specs.declared.finding.Found.{Found}
use Rattle.octet_slice.specs.declared.finding.Found.TheVariants.{At, Nowhere}

-- the trace has this event at which the test answers yes, after events at which it answers no
pub record IsFirstMatch (answers : Event → Bool → Type 0) (trace : List (Place × Event)) (place : Place) (event : Event) : Type 0 where
  pub before : List (Place × Event)
  pub rest : List (Place × Event)
  pub parts : trace ≡ before ++ (place, event) ∷ rest
  pub accepted : answers event true
  pub refused : All (λ item. answers item.1 false) before

-- the event found is the first match. With none found, the test answers no at every event of the trace
abbrev pub IsFound : (Event → Bool → Type 0) → List (Place × Event) → Found → Type 0
IsFound answers trace (At place event) = IsFirstMatch answers trace place event
IsFound answers trace Nowhere = All (λ item. answers item.1 false) trace
