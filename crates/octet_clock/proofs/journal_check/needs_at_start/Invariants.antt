use Rattle.std.proofs.Common.{◌≡◌, ℕ, [], length, Some, slice_get}
use Rattle.octet_model.specs.Plays.{by_journals}
use Rattle.octet_replay.specs.declared.need.Need.{Need}
use Rattle.octet_replay.specs.Threads.{need_of}
use Rattle.octet_clock.proofs.journal_check.needs_at_start.Given as goal

abbrev pub invariant-loop-journal : goal.invariant-loop-journal
invariant-loop-journal l = record {
  as_many : length l.needs ≡ l.journal-index;
  each : (thread : ℕ) (need : Need) → slice_get l.needs thread ≡ Some need → need ≡ need_of (by_journals l.journals thread []);
}
