use Rattle.std.proofs.Common.{◌≡◌, drop}
use Rattle.std.specs.List.{list_all}
use Rattle.octet_model.specs.Log.{is_mark}
use Rattle.octet_marks.proofs.standing.are_marks.Given as goal

-- the marks that are left decide
abbrev pub invariant-loop-gapped : goal.invariant-loop-gapped
invariant-loop-gapped l = list_all (λ m. is_mark l.threads l.thread m.mark) (drop l.gapped-index l.marks) ≡ list_all (λ m. is_mark l.threads l.thread m.mark) l.marks
