-- What is found by a test that computes.
use Rattle.std.proofs.Common.{Bool, true, false, List, Result, Ok, Err, IfOk, All}
use Rattle.std.proofs.lemmas.List.Elements.{All-weaker}
use Rattle.octet_model.specs.declared.event.Event.{Event}
use Rattle.octet_model.specs.declared.event.Place.{Place}
use Rattle.octet_replay.specs.declared.fault.ReplayFault.{ReplayFault}
use Rattle.octet_slice.specs.declared.finding.Found.{Found}
use Rattle.octet_slice.specs.declared.finding.Found.TheVariants.{At, Nowhere}
use Rattle.octet_slice.specs.FirstMatch.{IsFound}

module _ (answers others : Event → Bool → Type 0) (each : (event : Event) (answer : Bool) → answers event answer → others event answer) where
  none_by : (trace : List (Place × Event)) → All (λ item. answers item.1 false) trace → All (λ item. others item.1 false) trace
  none_by trace none = All-weaker (λ item. answers item.1 false) (λ item. others item.1 false) (λ item. each item.1 false) trace none

  -- where each answer is one of another test, what is found is found by that
  found_by : (trace : List (Place × Event)) (found : Found) → IsFound answers trace found → IsFound others trace found
  found_by trace (At place event) is = record { before = is.before; rest = is.rest; parts = is.parts; accepted = each event true is.accepted; refused = none_by is.before is.refused }
  found_by trace Nowhere is = none_by trace is

  pub result_by : (trace : List (Place × Event)) (result : Result Found ReplayFault) → IfOk result (IsFound answers trace) → IfOk result (IsFound others trace)
  result_by trace (Ok found) is = found_by trace found is
  result_by trace (Err fault) is = tt
