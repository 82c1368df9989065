use Rattle.std.proofs.Common.{◌≡◌, ◌∙◌, List, ℕ, Some, ap}
use Rattle.std.proofs.lemmas.Result.{IfOk-weaker}
use Rattle.sha2.specs.Sha256.{sha256}
use Rattle.octet_commands.specs.Answer.{answer_of, reports}
use Rattle.octet_commands.specs.Commands.{second_bytes, IsLogFile}
use Rattle.octet_commands.proofs.lemmas.Lengths.{is_second, second_file}
use Rattle.octet_commands.proofs.convert.write_log.Goals as goal

pub returns : goal.returns
returns c =
    let source = c.args.source.now.text in
    let log = c.args.log.now in
    let name = c.args.name.now in
    let text = c.args.text.items in
    let bytes = c.in_ok-bytes.bytes.items in
    let whole = c.in_ok-bytes.ensures.whole in
    let spells = c.in_ok-bytes.ensures.spells in
    let of_text : c.digest-digest.result.bytes ≡ sha256 source = c.digest-digest.ensures ∙ ap sha256 c.as_slice.ensures in
    IfOk-weaker c.reporting.result (λ reply. answer_of reply ≡ reports c.args.status name bytes text)
    (λ reply. IsLogFile (second_bytes source log.threads) (Some (sha256 source)) log.threads × (answer_of reply ≡ reports c.args.status name (second_bytes source log.threads) text))
    (λ reply is. (
      second_file source c.digest-digest.result.bytes log bytes of_text c.requires whole spells,
      is ∙ ap (λ (b : List ℕ). reports c.args.status name b text) (is_second source c.digest-digest.result.bytes log bytes of_text c.requires whole spells),
    ))
    c.reporting.ensures
