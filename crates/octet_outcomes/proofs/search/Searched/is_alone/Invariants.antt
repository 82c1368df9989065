use Rattle.std.proofs.Common.{◌≢◌, ℕ, ◌<◌, get_or}
use Rattle.octet_model.specs.Orders.{commands_of}
use Rattle.octet_outcomes.specs.Alone.{KeepsOff}
use Rattle.octet_outcomes.specs.Moments.{no_moment, stand_in}
use Rattle.octet_outcomes.proofs.search.Searched.is_alone.Given as goal

abbrev pub invariant-loop-other : goal.invariant-loop-other
invariant-loop-other l =
    (k : ℕ) → k < l.other → k ≢ l.thread → (more : ℕ) → KeepsOff more (commands_of l.script k) l.script.fuel l.demand (stand_in (get_or l.self.moments.moments l.place no_moment) k)
