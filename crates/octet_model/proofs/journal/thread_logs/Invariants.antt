use Rattle.std.proofs.Common.{◌≡◌, take}
use Rattle.octet_model.specs.Journals.{log_of}
use Rattle.octet_model.proofs.journal.thread_logs.Given as goal

abbrev pub invariant-loop-journal : goal.invariant-loop-journal
invariant-loop-journal l = l.logs ≡ log_of (take l.journal-index l.journals)
