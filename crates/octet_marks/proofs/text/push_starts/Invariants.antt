use Rattle.std.proofs.Common.{◌≡◌, ◌++◌, drop}
use Rattle.octet_marks.specs.Texts.{start_lines}
use Rattle.octet_marks.proofs.text.push_starts.Given as goal

-- what is written, and then the lines that are left
abbrev pub invariant-loop-object : goal.invariant-loop-object
invariant-loop-object l = l.out.items ++ start_lines l.object (drop l.object l.starts) ≡ l.fn.out.items ++ start_lines 0 l.starts
