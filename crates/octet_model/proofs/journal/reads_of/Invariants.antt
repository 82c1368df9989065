use Rattle.std.proofs.Common.{◌≡◌, map, take}
use Rattle.octet_model.specs.Orders.{values_read}
use Rattle.octet_model.proofs.journal.reads_of.Given as goal

abbrev pub invariant-loop-journal : goal.invariant-loop-journal
invariant-loop-journal l = l.reads ≡ map values_read (take l.journal-index l.journals)
