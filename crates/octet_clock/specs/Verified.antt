-- What a script and a log are told by the check.
use Rattle.std.specs.Prelude.{◌≡◌, ℕ, List, ◌++◌}
use Rattle.octet_model.specs.declared.script.Script.{Script}
use Rattle.octet_model.specs.declared.log.ThreadLog.{ThreadLog}
use Rattle.octet_model.specs.Orders.{execution, journals_after, lowest_order, IsLawfulFront, IsLawfulOrder}
use Rattle.octet_clock.specs.declared.verdict.Verdict.{Verdict}
use Rattle.octet_clock.specs.declared.verdict.Verdict.TheVariants.{Ordered}
use Rattle.octet_clock.specs.Verdict.{IsVerdict, JudgedUpTo}
use Rattle.octet_replay.specs.ReplayState.{ReplayState, HasHalted}

-- all lawful orders have one execution and the same journals, and every lawful front continues to a lawful order
pub record HasOneOutcome (script : Script) (log : List ThreadLog) : Type 0 where
  pub execution : (order : List ℕ) → IsLawfulOrder script log order → execution script log order ≡ execution script log (lowest_order script log)
  pub journals : (order : List ℕ) → IsLawfulOrder script log order → journals_after script log order ≡ journals_after script log (lowest_order script log)
  pub continues : (front : List ℕ) → IsLawfulFront script log front → (rest : List ℕ) × IsLawfulOrder script log (front ++ rest)

-- the lowest order is lawful, and this is the verdict on its journals. The log has one outcome
-- where they are ordered
pub record IsVerified (script : Script) (log : List ThreadLog) (verdict : Verdict) : Type 0 where
  pub lawful : IsLawfulOrder script log (lowest_order script log)
  pub told : IsVerdict (journals_after script log (lowest_order script log)) (lowest_order script log) verdict
  pub one_outcome : verdict ≡ Ordered → HasOneOutcome script log

-- the verdict is right for the steps that the replayer made. If it is Ordered, no thread may step any more.
-- Otherwise it names the first unordered pair
pub record IsJudged (before after : ReplayState) (verdict : Verdict) : Type 0 where
  pub script : after.script ≡ before.script
  pub log : after.log ≡ before.log
  pub halted : verdict ≡ Ordered → HasHalted after
  pub judged : JudgedUpTo (journals_after before.script before.log.threads (lowest_order before.script before.log.threads)) (lowest_order before.script before.log.threads) after.steps verdict
