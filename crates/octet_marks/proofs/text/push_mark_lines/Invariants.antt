use Rattle.std.proofs.Common.{◌≡◌, ◌++◌, drop}
use Rattle.std.specs.List.{flat_map}
use Rattle.octet_log.specs.Texts.{mark_line}
use Rattle.octet_marks.proofs.text.push_mark_lines.Given as goal

-- what is written, and then the lines that are left
abbrev pub invariant-loop-gapped : goal.invariant-loop-gapped
invariant-loop-gapped l = l.out.items ++ flat_map mark_line (drop l.gapped-index l.marks) ≡ l.fn.out.items ++ flat_map mark_line l.marks
