use Rattle.std.proofs.Common.{◌≡◌, ap, ◌∙◌, subst}
use Rattle.octet_model.specs.declared.script.Script.{Script}
use Rattle.octet_model.specs.declared.log.Log.{Log}
use Rattle.octet_model.specs.declared.outcome.Outcome.{Outcome}
use Rattle.octet_model.specs.Orders.{execution, lowest_order}
use Rattle.octet_replay.specs.Judged.{IsLawful}
use Rattle.octet_replay.specs.ReplayState.{ReplayState}
use Rattle.octet_clock.proofs.checks.Verifying.{verified}
use Rattle.octet_clock.proofs.verified.verify_and_replay.Goals as goal

pub returns-clause-verdict : goal.returns-clause-verdict
returns-clause-verdict c =
    let opens = c.in_ok-replayer.ensures.opens in
    let judged = c.in_ok-verdict.ensures in
    let is_script : c.run.new.self.script ≡ c.args.script.now = c.run.ensures.script ∙ judged.script ∙ ap (λ (r : ReplayState). r.script) opens in
    let is_log : c.run.new.self.log ≡ c.args.log.now = c.run.ensures.log ∙ judged.log ∙ ap (λ (r : ReplayState). r.log) opens in
    let of_script = subst (λ (script : Script). IsLawful script c.run.new.self.log.threads) is_script c.in_ok-outcome.ensures.lawful in
    let lawful = subst (λ (log : Log). IsLawful c.args.script.now log.threads) is_log of_script in
    verified c.args.script.now c.args.log.now c.in_ok-replayer.replayer c.judge.new.replayer opens c.in_ok-verdict.verdict judged lawful

pub returns-clause-outcome : goal.returns-clause-outcome
returns-clause-outcome c =
    let opens = c.in_ok-replayer.ensures.opens in
    let judged = c.in_ok-verdict.ensures in
    let is_script : c.run.new.self.script ≡ c.args.script.now = c.run.ensures.script ∙ judged.script ∙ ap (λ (r : ReplayState). r.script) opens in
    let is_log : c.run.new.self.log ≡ c.args.log.now = c.run.ensures.log ∙ judged.log ∙ ap (λ (r : ReplayState). r.log) opens in
    c.in_ok-outcome.ensures.outcome
    ∙ ap (λ (script : Script). execution script c.run.new.self.log.threads (lowest_order script c.run.new.self.log.threads)) is_script
    ∙ ap (λ (log : Log). execution c.args.script.now log.threads (lowest_order c.args.script.now log.threads)) is_log
