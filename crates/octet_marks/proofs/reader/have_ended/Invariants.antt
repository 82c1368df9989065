use Rattle.std.proofs.Common.{◌≡◌, drop}
use Rattle.std.specs.List.{list_all}
use Rattle.octet_marks.proofs.reader.have_ended.Given as goal

-- the threads that are left decide
abbrev pub invariant-loop-progress : goal.invariant-loop-progress
invariant-loop-progress l = list_all (λ progress. progress.ended) (drop l.progress-index l.threads) ≡ list_all (λ progress. progress.ended) l.threads
