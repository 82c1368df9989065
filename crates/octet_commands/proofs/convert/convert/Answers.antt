use Rattle.std.proofs.Common.{◌≡◌, ◌∙◌, length, inr, ap, arith}
use Rattle.octet_commands.specs.Answer.{writes_file}
use Rattle.octet_commands.specs.Commands.{second_bytes}
use Rattle.octet_commands.proofs.convert.convert.Goals as goal

pub returns : goal.returns
returns c =
    let pair = c.args.pair.now in
    let threads : length pair.source.script.threads ≡ length pair.loaded.log.threads = grind (arith, c.if-script-log.false, c.len-script.ensures, c.len-log.ensures) in
    inr (
      threads,
      c.in_ok-write_log.ensures.0,
      c.in_ok-write_log.ensures.1 ∙ ap (writes_file c.args.out.now (second_bytes pair.source.text pair.loaded.log.threads)) c.in_ok-said.ensures.items,
    )
