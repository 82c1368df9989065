use Rattle.std.proofs.Common.{◌≡◌, drop}
use Rattle.octet_window.specs.Noting.{touched_by}
use Rattle.octet_window.proofs.touching.add_touched.Given as goal

abbrev pub invariant-loop-note : goal.invariant-loop-note
invariant-loop-note l = touched_by l.objects.items (drop l.note-index l.notes) ≡ touched_by l.fn.objects.items l.notes
