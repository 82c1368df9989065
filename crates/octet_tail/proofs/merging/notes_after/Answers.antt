use Rattle.std.proofs.Common.{◌∙◌, List, ap}
use Rattle.octet_model.specs.declared.event.Event.{Event}
use Rattle.octet_window.specs.Ordering.{accesses_in}
use Rattle.octet_tail.proofs.Merged.{merged_accesses}
use Rattle.octet_tail.proofs.merging.notes_after.Goals as goal

pub returns-clause-accesses : goal.returns-clause-accesses
returns-clause-accesses c = ap (λ (l : List Event). accesses_in l) c.in_ok-notes.ensures.events ∙ merged_accesses c.args.front.now c.args.before c.args.accesses.now c.args.marks.now
