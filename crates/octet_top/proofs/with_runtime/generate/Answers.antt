use Rattle.std.proofs.Common.{◌∙◌, ap}
use Rattle.octet_script.specs.Spelling.{canonical_text}
use Rattle.octet_model.specs.Texts.{log_bytes}
use Rattle.octet_commands.specs.Answer.{file_of, writes_both}
use Rattle.octet_top.proofs.with_runtime.generate.Goals as goal

pub returns : goal.returns
returns g c =
    let script_name = c.args.script_name.now in
    let log_name = c.args.log_name.now in
    let script = c.in_ok-script.script in
    let log = c.in_ok-recorded.recorded.log in
    let script_file = c.in_ok-script_file.script_file in
    let log_file = c.in_ok-log_file.log_file in
    let text = c.in_ok-from_slice.field-0.items in (
      script,
      log,
      c.in_ok-recorded.recorded.outcome,
      c.in_ok-script.ensures,
      c.in_ok-recorded.ensures.faithful,
      c.in_ok-writing_both.ensures
          ∙ ap (λ file. writes_both file (file_of log_file) text) (c.in_ok-script_file.ensures ∙ ap (λ b. (script_name, b)) c.in_ok-text.ensures.text)
          ∙ ap (λ file. writes_both (script_name, canonical_text script) file text) (c.in_ok-log_file.ensures ∙ ap (λ b. (log_name, b)) c.in_ok-bytes.ensures)
          ∙ ap (writes_both (script_name, canonical_text script) (log_name, log_bytes log.threads)) c.in_ok-from_slice.ensures.items,
    )
