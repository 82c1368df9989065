use Rattle.octet_script.proofs.judging.Judged.{valid_bytes}
use Rattle.octet_script.proofs.parser.judge_bytes.Goals as goal

pub returns-in-Ok : goal.returns-in-Ok
returns-in-Ok c = valid_bytes c.args.text.now c.in-Ok.ensures.cases.1
