use Rattle.std.proofs.Common.{◌≡◌, ◌∙◌, Some, ap}
use Rattle.std.proofs.lemmas.Result.{IfOk-weaker}
use Rattle.sha2.specs.Sha256.{sha256}
use Rattle.octet_commands.specs.declared.reply.Status.TheVariants.{Otherwise}
use Rattle.octet_commands.specs.Answer.{answer_of, reports}
use Rattle.octet_commands.specs.Commands.{second_bytes, IsLogFile, IsWitness}
use Rattle.octet_commands.specs.Request.{shown_claim}
use Rattle.octet_commands.proofs.lemmas.Recorded.{faithful_few}
use Rattle.octet_commands.proofs.answering.Hunted.{refuted_faithfully}
use Rattle.octet_commands.proofs.always.say_otherwise.Goals as goal

pub write_log-requires : goal.write_log-requires
write_log-requires c =
    let script = c.args.source.now.script in
    let recorded = c.args.find.now.recorded in
    faithful_few script recorded.log recorded.outcome (refuted_faithfully script (shown_claim c.args.claim) c.args.wanted recorded c.requires)

pub returns : goal.returns
returns c =
    let name = c.args.log_name.now in
    let source = c.args.source.now in
    let find = c.args.find.now in
    let text = c.in_ok-text.text.items in
    let bytes = second_bytes source.text find.recorded.log.threads in
    IfOk-weaker c.write_log.result (λ reply. IsLogFile bytes (Some (sha256 source.text)) find.recorded.log.threads × (answer_of reply ≡ reports Otherwise name bytes text))
    (λ reply. IsWitness (shown_claim c.args.claim) name source c.args.wanted (answer_of reply))
    (λ reply wrote. record {
      preemptions = find.preemptions;
      recorded = find.recorded;
      refutes = c.requires;
      file = wrote.0;
      is = wrote.1 ∙ ap (reports Otherwise name bytes) c.in_ok-text.ensures;
    })
    c.write_log.ensures
