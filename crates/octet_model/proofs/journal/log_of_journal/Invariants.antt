use Rattle.std.proofs.Common.{◌≡◌, ◌+◌, ◌≤◌, ◌++◌, drop}
use Rattle.octet_model.specs.Journals.{access_count, gapped_marks}
use Rattle.octet_model.proofs.journal.log_of_journal.Given as goal

abbrev pub invariant-loop-event : goal.invariant-loop-event
invariant-loop-event l = record {
  accesses : l.accesses + access_count (drop l.event-index l.journal) ≡ access_count l.journal;
  gap : l.gap ≤ l.accesses;
  marks : l.marks ++ gapped_marks l.gap (drop l.event-index l.journal) ≡ gapped_marks 0 l.journal;
}
