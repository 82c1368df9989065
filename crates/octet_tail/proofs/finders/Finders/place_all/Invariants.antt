use Rattle.std.proofs.Common.{drop}
use Rattle.octet_tail.proofs.Noted.{IsPlaced}
use Rattle.octet_tail.proofs.finders.Finders.place_all.Given as goal

abbrev pub invariant-loop-gapped : goal.invariant-loop-gapped
invariant-loop-gapped l = IsPlaced l.thread l.marks l.fn.self l.self (drop l.gapped-index l.marks)
