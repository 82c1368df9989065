use Rattle.std.proofs.Common.{◌≡◌, ℕ, length, rules, ap, ◌∙◌, subst}
use Rattle.octet_model.specs.declared.log.Log.{Log}
use Rattle.octet_model.specs.declared.script.Script.{Script}
use Rattle.octet_replay.specs.Judged.{IsLawful}
use Rattle.octet_replay.specs.ReplayState.{ReplayState}
use Rattle.octet_regions.specs.Accesses.{accesses_of}
use Rattle.octet_regions.specs.code.Chooser.{FitQueues}
use Rattle.octet_regions.proofs.Showing.{shows}
use Rattle.octet_regions.proofs.order.serialize.Goals as goal

pub returns-clause-shows : goal.returns-clause-shows
returns-clause-shows c =
    let opens = c.in_ok-replayer.ensures.opens in
    let is_script = ap (λ (x : ReplayState). x.script) opens in
    let is_log = ap (λ (x : ReplayState). x.log) opens in
    let first = c.in_ok-replayer.replayer in
    let last = c.queues_of.new.replayer in
    let new_script : last.script ≡ c.args.script.now = c.in_ok-queues.ensures.script ∙ is_script in
    let new_log : last.log ≡ c.args.log.now = c.in_ok-queues.ensures.log ∙ is_log in
    let of_script = subst (λ (script : Script). IsLawful script last.log.threads) new_script c.in_ok-outcome.ensures.lawful in
    let lawful = subst (λ (log : Log). IsLawful c.args.script.now log.threads) new_log of_script in
    let threads : c.len.result ≡ length c.args.script.now.threads = search rules in
    let fit = subst (λ (n : ℕ). FitQueues n (accesses_of first.script first.log.threads)) threads c.in_ok-queues.ensures.fit in
    let fit_script = subst (λ (script : Script). FitQueues (length c.args.script.now.threads) (accesses_of script first.log.threads)) is_script fit in
    let fit_log = subst (λ (log : Log). FitQueues (length c.args.script.now.threads) (accesses_of c.args.script.now log.threads)) is_log fit_script in
    shows c.args.script.now c.args.log.now.threads c.in_ok-serial.serial lawful fit_log c.in_ok-serial.ensures.serial
