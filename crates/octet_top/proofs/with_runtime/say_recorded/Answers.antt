use Rattle.std.proofs.Common.{◌≡◌, ◌∙◌, ap}
use Rattle.std.proofs.lemmas.Result.{IfOk-weaker}
use Rattle.octet_model.specs.Texts.{log_bytes}
use Rattle.octet_model.specs.Texts as texts
use Rattle.octet_replay.proofs.lemmas.WholeOutcomes.{faithful_whole}
use Rattle.octet_commands.specs.Answer.{answer_of, writes_file}
use Rattle.octet_top.proofs.with_runtime.say_recorded.Goals as goal

pub outcome_text-requires-clause-ends : goal.outcome_text-requires-clause-ends
outcome_text-requires-clause-ends c = (faithful_whole c.args.script.now c.args.recorded.now.log.threads c.args.recorded.now.outcome c.requires).ends

pub outcome_text-requires-clause-reads : goal.outcome_text-requires-clause-reads
outcome_text-requires-clause-reads c = (faithful_whole c.args.script.now c.args.recorded.now.log.threads c.args.recorded.now.outcome c.requires).reads

pub outcome_text-requires-clause-heap : goal.outcome_text-requires-clause-heap
outcome_text-requires-clause-heap c = (faithful_whole c.args.script.now c.args.recorded.now.log.threads c.args.recorded.now.outcome c.requires).heap

pub returns : goal.returns
returns c =
    let name = c.args.log_name.now in
    let logs = c.args.recorded.now.log.threads in
    IfOk-weaker c.writing.result (λ reply. answer_of reply ≡ writes_file name c.in_ok-bytes.bytes.items c.in_ok-text.text.items) (λ reply. answer_of reply ≡ writes_file name (log_bytes logs) (texts.outcome_text c.args.script.now c.args.recorded.now.outcome))
    (λ reply is. is ∙ ap (λ b. writes_file name b c.in_ok-text.text.items) c.in_ok-bytes.ensures ∙ ap (writes_file name (log_bytes logs)) c.in_ok-text.ensures)
    c.writing.ensures
