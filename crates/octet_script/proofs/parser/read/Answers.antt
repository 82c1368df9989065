use Rattle.std.proofs.Common.{sym, subst}
use Rattle.octet_script.specs.Words.{lines}
use Rattle.octet_script.specs.Building.{IsValidSoFar, draft}
use Rattle.octet_script.proofs.judging.Valid.{start_valid, lines_valid}
use Rattle.octet_script.proofs.parser.read.Goals as goal

pub finish-requires : goal.finish-requires
finish-requires c =
    lines_valid (lines c.args.text.now) (draft c.new-builder.result) (draft c.judge_lines.new.builder) 1 c.in_ok-last.ensures.said (subst IsValidSoFar (sym c.new-builder.ensures) start_valid)
