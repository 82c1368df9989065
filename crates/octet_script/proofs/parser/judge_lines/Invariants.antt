use Rattle.std.proofs.Common.{◌≡◌, ◌+◌, ◌≤◌, length}
use Rattle.octet_script.specs.Words.{lines}
use Rattle.octet_script.specs.Parsing.{judged_lines}
use Rattle.octet_script.specs.Building.{draft}
use Rattle.octet_script.proofs.parser.judge_lines.Given as goal

abbrev pub decreases-loop-line : goal.decreases-loop-line
decreases-loop-line l = length l.rest

abbrev pub invariant-loop-line : goal.invariant-loop-line
invariant-loop-line l = record {
  judged : judged_lines (lines l.rest) (draft l.builder) l.number ≡ judged_lines (lines l.text) (draft l.fn.builder) 1;
  counted : l.number + length (lines l.rest) ≡ 1 + length (lines l.text);
  fits : l.number + length l.rest ≤ 1 + length l.text;
}
