use Rattle.std.proofs.Common.{◌≡◌, ◌++◌, drop}
use Rattle.octet_model.specs.Orders.{values_read}
use Rattle.octet_model.proofs.journal.values_read.Given as goal

abbrev pub invariant-loop-event : goal.invariant-loop-event
invariant-loop-event l = l.values ++ values_read (drop l.event-index l.journal) ≡ values_read l.journal
