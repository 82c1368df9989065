-- A replay in which no thread may step has made the whole lowest order.
use Rattle.std.proofs.Common.{◌≡◌, ℕ, zero, suc, ◌≤◌, List, [], ◌∷◌, length, take, IsFalse, refl, arith}
use Rattle.octet_model.specs.Machine.{PlainState, Behavior, may_step, step, after}
use Rattle.octet_model.specs.Orders.{by_log, opening_state, lowest_order, IsLowestFront}
use Rattle.octet_model.proofs.lemmas.LowestFronts.{lowest_order_is_lowest}
use Rattle.octet_replay.specs.Judged.{last_state}
use Rattle.octet_replay.specs.ReplayState.{ReplayState, plain_state, HasHalted}

module _ (behavior : Behavior) where
  ends_there : (k : ℕ) (order : List ℕ) (s : PlainState) → IsLowestFront behavior s order → ((t : ℕ) → IsFalse (may_step behavior (after behavior s (take k order)) t))
      → after behavior s (take k order) ≡ after behavior s order
  ends_there zero [] s low none = refl
  ends_there (suc k) [] s low none = refl
  ends_there zero (u ∷ order) s low none = absurd (let none_u = none u in let may = low.0 in cc)
  ends_there (suc k) (u ∷ order) s low none = ends_there k order (step behavior s u) low.2 none

  -- where no thread may step after the first steps of a lowest front, these are all
  pub no_step_left : (k : ℕ) (order : List ℕ) (s : PlainState) → IsLowestFront behavior s order → ((t : ℕ) → IsFalse (may_step behavior (after behavior s (take k order)) t)) → length order ≤ k
  no_step_left k [] s low none = omega arith
  no_step_left zero (u ∷ order) s low none = absurd (let none_u = none u in let may = low.0 in cc)
  no_step_left (suc k) (u ∷ order) s low none = omega (arith, no_step_left k order (step behavior s u) low.2 none)

module _ (r : ReplayState) (agree : length r.script.threads ≡ length r.log.threads) (halted : HasHalted r) where
  -- its state is the last
  pub is_last_state : plain_state r ≡ last_state r.script r.log.threads
  is_last_state =
      ends_there (by_log r.script r.log.threads) r.steps (lowest_order r.script r.log.threads) (opening_state r.script) (lowest_order_is_lowest r.script r.log.threads agree) halted

  -- and no step is left
  pub all_steps_made : length (lowest_order r.script r.log.threads) ≤ r.steps
  all_steps_made =
      no_step_left (by_log r.script r.log.threads) r.steps (lowest_order r.script r.log.threads) (opening_state r.script) (lowest_order_is_lowest r.script r.log.threads agree) halted
