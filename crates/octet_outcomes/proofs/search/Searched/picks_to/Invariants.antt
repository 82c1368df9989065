use Rattle.std.proofs.Common.{◌+◌, ◌≤◌, get_or, reverse}
use Rattle.octet_outcomes.specs.Moments.{no_moment}
use Rattle.octet_outcomes.proofs.Likeness.{RunLike}
use Rattle.octet_outcomes.proofs.search.Searched.picks_to.Given as goal

abbrev pub invariant-loop-taken : goal.invariant-loop-taken
invariant-loop-taken l = record {
  near : l.at + l._taken ≤ l.place;
  run : RunLike l.script (get_or l.self.moments.moments l.at no_moment) (reverse l.picks.items) (get_or l.self.moments.moments l.place no_moment);
}
