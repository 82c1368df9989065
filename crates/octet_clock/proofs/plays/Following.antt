-- The next step of waiting lists that follow a lowest front, and their end.
use Rattle.std.proofs.Common.{◌≡◌, ℕ, suc, ◌≤◌, Bool, false, if◌then◌else◌, List, length, take, IsTrue, sym, ap, ◌∙◌, subst}
use Rattle.octet_model.specs.Machine.{PlainState, Behavior, Operation, draws_after, next_of, may_step, step, after}
use Rattle.octet_model.proofs.lemmas.Steps.{Makes, what_it_makes}
use Rattle.octet_replay.specs.declared.need.Need.{Need}
use Rattle.octet_replay.specs.Needs.{NeedsAndCounts, after_step, is_ready, IsLowestReady}
use Rattle.octet_replay.specs.Replayed.{AwaitsNext}
use Rattle.octet_replay.specs.Threads.{need_of}
use Rattle.octet_replay.proofs.lemmas.Awaiting.{OneMore, one_more, ready_may, awaits_after, one_counted}
use Rattle.octet_replay.proofs.lemmas.Halting.{no_step_left}
use Rattle.octet_clock.specs.Following.{counted, state_reached, Follows}

module _ (V : Behavior) (start : PlainState) (front : List ℕ) (w : NeedsAndCounts) (follows : Follows V start front w) where
  abbrev s : PlainState
  s = state_reached V start front w

  module _ (t : ℕ) (lowest : IsLowestReady w t) where
    pub may_now : IsTrue (may_step V s t)
    may_now = sym (ready_may V s w follows.awaits t) ∙ lowest.is_met

    pub made_now : (o : Operation) × Makes V s t o
    made_now = what_it_makes V s t may_now

    -- it is the next of the front
    pub next_of_front : OneMore V front start (counted w) t
    next_of_front = one_more V (counted w) front start follows.lowest t may_now (λ u below. sym (ready_may V s w follows.awaits u) ∙ lowest.lowest u below)

    -- and once it is counted the lists follow on
    module _ (o : Operation) (makes : Makes V s t o) (draw : Bool) (drawn : (draws : ℕ) → (if draw then suc draws else draws) ≡ draws_after o draws)
        (next : Need) (next_is : next ≡ need_of (next_of V (step V s t) t)) (w' : NeedsAndCounts) (is : w' ≡ after_step w t draw next) where
      pub one_more_counted : counted w' ≡ suc (counted w)
      one_more_counted = one_counted V s w follows.awaits t o makes draw (drawn w.draws) next next_is w' is

      pub reached : state_reached V start front w' ≡ step V s t
      reached = ap (λ (n : ℕ). after V start (take n front)) one_more_counted ∙ next_of_front.steps

      pub follows_on : Follows V start front w'
      follows_on = record {
        lowest = follows.lowest;
        awaits = subst (λ (x : PlainState). AwaitsNext V x w') (sym reached) (awaits_after V s w follows.awaits t o makes draw (drawn w.draws) next next_is w' is);
      }

  -- where no need is met, the front has ended
  module _ (none : (t : ℕ) → is_ready w t ≡ false) where
    pub all_counted : length front ≤ counted w
    all_counted = no_step_left V (counted w) front start follows.lowest (λ t. sym (ready_may V s w follows.awaits t) ∙ none t)
