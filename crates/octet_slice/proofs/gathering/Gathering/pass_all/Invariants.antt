use Rattle.std.proofs.Common.{◌≡◌, false, ℕ}
use Rattle.octet_model.specs.Machine.{Journals}
use Rattle.octet_slice.specs.Gathering.{AreOfLog, HasMarks, IsPartOfPast}
use Rattle.octet_slice.specs.code.Advancing.{Advances}
use Rattle.octet_slice.specs.code.Reached.{gathered, left}
use Rattle.octet_slice.proofs.gathering.Gathering.pass_all.Given as goal

abbrev pub invariant-taking : goal.invariant-taking
invariant-taking l = Advances l.logs (gathered l.fn.self) l.has_passed (gathered l.self)

abbrev pub decreases-taking : goal.decreases-taking
decreases-taking l = left l.logs l.self.threads.items

abbrev pub invariant-searching : goal.invariant-searching
invariant-searching l = record {
  advances : Advances l.logs (gathered l.fn.self) l.has_passed (gathered l.self);
  marks : l.has_passed ≡ false → (journals : Journals) (of now : ℕ) → AreOfLog journals l.logs → IsPartOfPast journals of now (gathered l.fn.self) → HasMarks journals (gathered l.fn.self) l.thread;
}

abbrev pub decreases-searching : goal.decreases-searching
decreases-searching l = left l.logs l.self.threads.items
