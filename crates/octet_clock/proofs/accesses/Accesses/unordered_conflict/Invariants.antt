use Rattle.std.proofs.Common.{◌≡◌, ◌<◌, ℕ, List, length}
use Rattle.octet_model.specs.declared.event.Event.{Event}
use Rattle.octet_model.specs.declared.event.Place.{Place}
use Rattle.octet_model.specs.HappensBefore.{HappensBefore}
use Rattle.octet_clock.specs.Accesses.{KeepsAccesses, IsAccessStep}
use Rattle.octet_clock.specs.Play.{step_place}
use Rattle.octet_clock.specs.Verdict.{IsEarlierConflict}
use Rattle.octet_clock.proofs.accesses.Accesses.unordered_conflict.Given as goal

abbrev pub invariant-loop-other : goal.invariant-loop-other
invariant-loop-other l = (journals : List (List Event)) (play : List ℕ) (index : ℕ) → length journals ≡ l.threads → KeepsAccesses journals play index l.self → IsAccessStep journals play index l.thread l.object l.writing l.known
    → (place : Place) → place.thread < l.other → IsEarlierConflict journals play index place → HappensBefore journals place (step_place play index)
