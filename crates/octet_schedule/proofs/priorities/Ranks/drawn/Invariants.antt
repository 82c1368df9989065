use Rattle.std.proofs.Common.{◌≡◌, ◌<◌, ◌%◌, ℕ, get_or}
use Rattle.octet_schedule.specs.declared.priorities.TheConstants.{DRAWN_RANKS}
use Rattle.octet_schedule.specs.Draws.{drawn, draws_after}
use Rattle.octet_schedule.proofs.priorities.Ranks.drawn.Given as goal

abbrev pub invariant-loop-rank : goal.invariant-loop-rank
invariant-loop-rank l =
    (l.draws.generator ≡ draws_after l.initial.draws.generator l.rank-index)
    × ((thread : ℕ) → thread < l.rank-index → get_or l.rank-items thread 0 ≡ drawn (draws_after l.initial.draws.generator thread) % DRAWN_RANKS)
