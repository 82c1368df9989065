-- What the checker holds after some steps of a whole play.
use Rattle.std.specs.Prelude.{◌≡◌, ℕ, suc, List}
use Rattle.octet_model.specs.declared.event.Event.{Event}
use Rattle.octet_model.specs.Machine.{Journals}
use Rattle.octet_clock.specs.declared.checker.Checker.{Checker}
use Rattle.octet_clock.specs.Accesses.{KeepsAccesses}
use Rattle.octet_clock.specs.Clock.{count_in}
use Rattle.octet_clock.specs.Play.{made_by}
use Rattle.octet_clock.specs.Sources.{IsNextStep, KeepsDraws, KeepsAllMarks}
use Rattle.octet_clock.specs.Verdict.{JudgedUpTo}

-- the checker holds what the steps before an index made: counts, marks, draws, accesses and a verdict
pub record Holds (journals : Journals) (play : List ℕ) (index : ℕ) (checker : Checker) : Type 0 where
  pub made : (thread : ℕ) → count_in checker.made thread ≡ made_by play index thread
  pub marks : KeepsAllMarks journals play index checker.marks.items
  pub draws : KeepsDraws journals play index checker.draws.items
  pub accesses : KeepsAccesses journals play index checker.accesses
  pub judged : JudgedUpTo journals play index checker.verdict

-- the checker took in a thread's event: it holds after the event what it held before
abbrev pub TakesEvent : Checker → ℕ → Event → Checker → Type 0
TakesEvent before thread event after = (journals : Journals) (play : List ℕ) (index : ℕ) → IsNextStep journals play index thread event → Holds journals play index before → Holds journals play (suc index) after
