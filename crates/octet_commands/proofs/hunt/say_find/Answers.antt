use Rattle.std.proofs.Common.{◌≡◌, ◌∙◌, Some, ap}
use Rattle.std.proofs.lemmas.Result.{IfOk-weaker}
use Rattle.sha2.specs.Sha256.{sha256}
use Rattle.octet_commands.specs.Answer.{answer_of, writes_file}
use Rattle.octet_commands.specs.Commands.{aim_of, second_bytes, IsFind, IsLogFile}
use Rattle.octet_commands.specs.Request.{shown_quarry}
use Rattle.octet_commands.proofs.lemmas.Recorded.{faithful_few}
use Rattle.octet_commands.proofs.answering.Hunted.{met_faithfully}
use Rattle.octet_commands.proofs.hunt.say_find.Goals as goal

pub write_log-requires : goal.write_log-requires
write_log-requires c =
    let script = c.args.source.now.script in
    let find = c.args.find.now in
    faithful_few script find.recorded.log find.recorded.outcome (met_faithfully script (aim_of (shown_quarry c.args.quarry) c.args.wanted) find.recorded find.hops c.requires.meets)

pub returns : goal.returns
returns c =
    let name = c.args.log_name.now in
    let source = c.args.source.now in
    let find = c.args.find.now in
    let text = c.in_ok-text.text.items in
    let bytes = second_bytes source.text find.recorded.log.threads in
    IfOk-weaker c.write_log.result (λ reply. IsLogFile bytes (Some (sha256 source.text)) find.recorded.log.threads × (answer_of reply ≡ writes_file name bytes text))
    (λ reply. IsFind (shown_quarry c.args.quarry) name c.args.tries source c.args.wanted (answer_of reply))
    (λ reply wrote. record {
      attempt = find.attempt;
      preemptions = find.preemptions;
      recorded = find.recorded;
      hops = find.hops;
      first = c.requires.first;
      last = c.requires.last;
      meets = c.requires.meets;
      file = wrote.0;
      is = wrote.1 ∙ ap (writes_file name bytes) c.in_ok-text.ensures;
    })
    c.write_log.ensures
