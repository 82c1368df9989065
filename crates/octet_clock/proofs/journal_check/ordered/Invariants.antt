use Rattle.std.proofs.Common.{◌≡◌, ◌-◌, [], length}
use Rattle.octet_model.specs.Plays.{lowest_play}
use Rattle.octet_clock.specs.declared.verdict.Verdict.TheVariants.{Ordered}
use Rattle.octet_clock.specs.Following.{counted}
use Rattle.octet_clock.specs.Ordered.{ChecksAt}
use Rattle.octet_clock.proofs.journal_check.ordered.Given as goal

abbrev pub invariant-loop-thread : goal.invariant-loop-thread
invariant-loop-thread l = record {
  at : ChecksAt l.fn.journals l.check;
  ordered : l.check.checker.verdict ≡ Ordered;
}

abbrev pub decreases-loop-thread : goal.decreases-loop-thread
decreases-loop-thread l = length (lowest_play [] l.fn.journals) - counted l.check.waits
