-- What the journals that the players made tell of the lowest order.
use Rattle.std.proofs.Common.{◌≡◌, ◌≢◌, List, Option, Some, None, Result, Ok, Err, IfOk, sym, ◌∙◌, subst}
use Rattle.std.specs.Prelude.{IfSome, IfNone}
use Rattle.octet_model.specs.declared.log.Log.{Log}
use Rattle.octet_model.specs.declared.log.ThreadLog.{ThreadLog}
use Rattle.octet_model.specs.declared.script.Script.{Script}
use Rattle.octet_model.specs.declared.outcome.Outcome.{Outcome}
use Rattle.octet_model.specs.Machine.{Journals}
use Rattle.octet_model.specs.Orders.{execution, lowest_order}
use Rattle.octet_model.specs.HappensBefore.{IsOrdered}
use Rattle.octet_replay.specs.declared.fault.ReplayFault.{ReplayFault}
use Rattle.octet_replay.specs.declared.fault.ReplayFault.TheVariants.{OutOfMemory}
use Rattle.octet_replay.specs.Judged.{HasCause}
use Rattle.octet_replay.proofs.lemmas.OneAnswer.{not_refused}
use Rattle.octet_clock.specs.declared.verdict.Verdict.{Verdict}
use Rattle.octet_clock.specs.declared.verdict.Verdict.TheVariants.{Ordered}
use Rattle.octet_clock.specs.Ordered.{AreOfLawfulOrder}
use Rattle.octet_clock.specs.Verified.{IsVerified}
use Rattle.octet_clock.proofs.lemmas.FrontLaws.{no_front_is_amiss, one_order_tells, one_order_gives}
use Rattle.octet_parallel.specs.declared.finished.Finished as finished
use Rattle.octet_parallel.specs.Calls.{SomeFrontIsAmiss, IsFinishedReplay}
use Rattle.octet_parallel.specs.Judging.{IsJudged}

module _ (script : Script) (log : List ThreadLog) where
  pub amiss_judged : SomeFrontIsAmiss script log → IsJudged script log None
  amiss_judged some orders = no_front_is_amiss script log some.front some.thread orders some.lawful some.within some.amiss

  -- what the check on one thread tells
  module _ (verdict : Verdict) (verified : IsVerified script log verdict) where
    pub judged_if_ordered : (outcome : Option Outcome) (found : Outcome) → IfSome outcome (λ o. (verdict ≡ Ordered) × (o ≡ found)) → IfNone outcome (verdict ≢ Ordered)
        → found ≡ execution script log (lowest_order script log) → IsJudged script log outcome
    judged_if_ordered (Some outcome) found some none is = ((verified.lawful, verified.told.ordered.0 some.0), some.1 ∙ is)
    judged_if_ordered None found some none is = λ orders. none (verified.told.ordered.1 orders.1)

  pub refused_judged : {E : Type 0} (fault : ReplayFault) (result : Result (Option Outcome) E) → IfOk result (λ outcome. (outcome ≡ None) × (fault ≢ OutOfMemory))
      → HasCause script log fault → IfOk result (λ outcome. IsJudged script log outcome)
  refused_judged fault (Ok outcome) is cause = subst (λ (o : Option Outcome). IsJudged script log o) (sym is.0) (λ orders. not_refused script log fault orders.0 is.1 cause)
  refused_judged fault (Err why) is cause = tt

  module _ (result : finished.Finished) (is : IsFinishedReplay script log result) where
    pub ordered_judged : IsOrdered result.journals → IsJudged script log (Some result.outcome)
    ordered_judged ordered =
        let orders = (one_order_tells script log is.order is.lawful).0 (subst (λ (js : Journals). IsOrdered js) is.journals ordered) in
        (orders, is.outcome ∙ (one_order_gives script log is.order is.lawful orders).0)

    pub unordered_judged : (IsOrdered result.journals → ⊥) → IsJudged script log None
    unordered_judged not orders = not (subst (λ (js : Journals). IsOrdered js) (sym is.journals) ((one_order_tells script log is.order is.lawful).1 orders))

pub of_lawful : (script : Script) (log : Log) (result : finished.Finished) → IsFinishedReplay script log.threads result → AreOfLawfulOrder result.journals
of_lawful script log result is = record { script = script; log = log; order = is.order; is_lawful = is.lawful; are = sym is.journals }
