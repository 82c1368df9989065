use Rattle.std.proofs.Common.{◌≡◌, ◌++◌, drop}
use Rattle.std.specs.List.{flat_map}
use Rattle.octet_log.specs.v2.Pieces.{short_mark_bytes, marks_bytes}
use Rattle.octet_log.proofs.v2.encoder.push_marks.Given as goal

-- what is written and what is left are the marks' bytes
abbrev pub invariant-loop-gapped : goal.invariant-loop-gapped
invariant-loop-gapped l = l.out.items ++ flat_map short_mark_bytes (drop l.gapped-index l.marks) ≡ l.fn.out.items ++ marks_bytes l.marks
