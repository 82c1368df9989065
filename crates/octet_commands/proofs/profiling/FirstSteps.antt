-- The journals of the first steps of a lowest order have places for all their events.
use Rattle.std.proofs.Common.{◌≡◌, ℕ, zero, suc, List, [], ◌∷◌, length, take, IsTrue}
use Rattle.octet_model.specs.declared.log.ThreadLog.{ThreadLog}
use Rattle.octet_model.specs.declared.script.Script.{Script}
use Rattle.octet_model.specs.Machine.{Behavior, PlainState, step, IsFront}
use Rattle.octet_model.specs.Orders.{by_log, opening_state, lowest_order}
use Rattle.octet_model.specs.Log.{is_log}
use Rattle.octet_model.proofs.lemmas.LowestFronts.{lowest_is_front, lowest_order_is_lowest}
use Rattle.octet_replay.specs.Places.{FitInPlaces}
use Rattle.octet_replay.specs.ReplayState.{state_at}
use Rattle.octet_replay.proofs.lemmas.Places.{front_fits_in_places}

-- the first steps of a front are one
front_take : (behavior : Behavior) (k : ℕ) (front : List ℕ) (s : PlainState) → IsFront behavior s front → IsFront behavior s (take k front)
front_take behavior zero front s is = tt
front_take behavior (suc k) [] s is = tt
front_take behavior (suc k) (u ∷ front) s is = (is.0, front_take behavior k front (step behavior s u) is.1)

pub first_steps_fit_in_places : (script : Script) (log : List ThreadLog) (steps : ℕ) → length script.threads ≡ length log → IsTrue (is_log log) → FitInPlaces (state_at script log steps).journals
first_steps_fit_in_places script log steps agree valid =
    let front = lowest_is_front (by_log script log) (lowest_order script log) (opening_state script) (lowest_order_is_lowest script log agree) in
    front_fits_in_places script log (take steps (lowest_order script log)) (agree, front_take (by_log script log) steps (lowest_order script log) (opening_state script) front) valid
