-- Waiting lists that follow a lowest front.
use Rattle.std.specs.Prelude.{ℕ, List, take}
use Rattle.std.specs.List.{sum}
use Rattle.octet_model.specs.Machine.{PlainState, Behavior, after}
use Rattle.octet_model.specs.Orders.{IsLowestFront}
use Rattle.octet_replay.specs.Needs.{NeedsAndCounts}
use Rattle.octet_replay.specs.Replayed.{AwaitsNext}

-- the number of events that are counted
abbrev pub counted : NeedsAndCounts → ℕ
counted waits = sum waits.events

-- the state after as many steps as events are counted
abbrev pub state_reached : Behavior → PlainState → List ℕ → NeedsAndCounts → PlainState
state_reached behavior start front waits = after behavior start (take (counted waits) front)

-- each thread waits for what is next for it in the state that the lowest front has reached
pub record Follows (behavior : Behavior) (start : PlainState) (front : List ℕ) (waits : NeedsAndCounts) : Type 0 where
  pub lowest : IsLowestFront behavior start front
  pub awaits : AwaitsNext behavior (state_reached behavior start front waits) waits
