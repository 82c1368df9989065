use Rattle.std.proofs.Common.{◌≡◌, take}
use Rattle.octet_model.specs.Machine.{no_events}
use Rattle.octet_window.proofs.ordered.no_journals.Given as goal

abbrev pub invariant-loop-notes : goal.invariant-loop-notes
invariant-loop-notes l = l.journals.items ≡ no_events (take l._notes-index l.threads)
