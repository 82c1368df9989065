use Rattle.std.proofs.Common.{◌≡◌, ◌≤◌, length}
use Rattle.octet_model.specs.Machine.{Journals, journal_of}
use Rattle.octet_slice.specs.Gathering.{AreOfLog, IsPartOfPast}
use Rattle.octet_slice.specs.code.Reached.{gathered, left}
use Rattle.octet_slice.proofs.gathering.gather.Given as goal

abbrev pub invariant-loop : goal.invariant-loop
invariant-loop l = record {
  many : length l.past.threads.items ≡ length l.logs;
  part : (journals : Journals) → AreOfLog journals l.logs → l.now ≤ length (journal_of journals l.thread) → IsPartOfPast journals l.thread l.now (gathered l.past);
}

abbrev pub decreases-loop : goal.decreases-loop
decreases-loop l = left l.logs l.past.threads.items
