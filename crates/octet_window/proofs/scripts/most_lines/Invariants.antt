use Rattle.std.proofs.Common.{◌≡◌, drop, max}
use Rattle.octet_window.specs.Windows.{most_lines}
use Rattle.octet_window.proofs.scripts.most_lines.Given as goal

abbrev pub invariant-loop-program : goal.invariant-loop-program
invariant-loop-program l = max l.most (most_lines (drop l.program-index l.programs)) ≡ most_lines l.programs
