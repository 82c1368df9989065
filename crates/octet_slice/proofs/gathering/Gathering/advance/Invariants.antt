use Rattle.std.proofs.Common.{◌≡◌, ◌<◌, false, ℕ}
use Rattle.octet_model.specs.Machine.{Journals}
use Rattle.octet_slice.specs.Gathering.{AreOfLog, IsPartOfPast, IsSettled}
use Rattle.octet_slice.specs.code.Advancing.{Advances}
use Rattle.octet_slice.specs.code.Reached.{gathered}
use Rattle.octet_slice.proofs.gathering.Gathering.advance.Given as goal

abbrev pub invariant-loop-thread : goal.invariant-loop-thread
invariant-loop-thread l = record {
  advances : Advances l.logs (gathered l.fn.self) l.has_passed (gathered l.self);
  settled : l.has_passed ≡ false → (journals : Journals) (of now : ℕ) → AreOfLog journals l.logs → IsPartOfPast journals of now (gathered l.fn.self) → (thread : ℕ) → thread < l.thread → IsSettled journals (gathered l.fn.self) thread;
}
