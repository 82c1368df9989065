use Rattle.std.proofs.Common.{◌≡◌, ◌++◌, drop}
use Rattle.octet_window.specs.Noting.{events_of, notes_in}
use Rattle.octet_tail.proofs.merging.note_all.Given as goal

abbrev pub invariant-loop-event : goal.invariant-loop-event
invariant-loop-event l = events_of (notes_in l.notes) ++ drop l.event-index l.events ≡ events_of (notes_in l.fn.notes) ++ l.events
