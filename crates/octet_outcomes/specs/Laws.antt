-- The laws of outcomes, as the public functions of laws.rt prove them.
use Rattle.std.specs.Prelude.{◌≡◌, ℕ, true, List}
use Rattle.std.specs.List.{list_all}
use Rattle.octet_model.specs.declared.outcome.Outcome.{Outcome}
use Rattle.octet_model.specs.declared.log.ThreadLog.{ThreadLog}
use Rattle.octet_model.specs.declared.script.Script.{Script}
use Rattle.octet_model.specs.Orders.{execution, is_done, IsFaithful, IsLawfulOrder}
use Rattle.octet_outcomes.specs.Runs.{IsOutcome}

-- every lawful order of any log whose threads are all done ends with an outcome
abbrev pub LawfulEndsAreOutcomes : Type 0
LawfulEndsAreOutcomes = (script : Script) (log : List ThreadLog) (order : List ℕ) → IsLawfulOrder script log order
    → list_all is_done (execution script log order).ends ≡ true → IsOutcome script (execution script log order).heap

-- every faithful recording whose threads are all done ends with an outcome
abbrev pub FaithfulEndsAreOutcomes : Type 0
FaithfulEndsAreOutcomes = (script : Script) (log : List ThreadLog) (outcome : Outcome) → IsFaithful script log outcome
    → list_all is_done outcome.ends ≡ true → IsOutcome script outcome.heap
