use Rattle.std.proofs.Common.{◌≡◌, ◌+◌, ◌≤◌, length}
use Rattle.octet_script.specs.Words.{lines}
use Rattle.octet_script.specs.LineNumbers.{command_lines}
use Rattle.octet_script.specs.Numbering.{numbers_with}
use Rattle.octet_script.proofs.Numbered.{parts_from}
use Rattle.octet_script.proofs.numbering.command_lines.Given as goal

abbrev pub decreases-loop-line : goal.decreases-loop-line
decreases-loop-line l = length l.rest

abbrev pub invariant-loop-line : goal.invariant-loop-line
invariant-loop-line l = record {
  numbered : numbers_with l.numbering (parts_from l.number (lines l.rest)) ≡ command_lines l.text;
  fits : l.number + length l.rest ≤ 1 + length l.text;
}
