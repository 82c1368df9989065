use Rattle.std.proofs.Common.{◌≡◌, ◌++◌, map, drop, length}
use Rattle.octet_window.specs.Noting.{renamed_note, AreIn, AreOf}
use Rattle.octet_window.proofs.touching.renamed_notes.Given as goal

abbrev pub invariant-loop-note : goal.invariant-loop-note
invariant-loop-note l = record {
  renamed : l.others ++ map (renamed_note l.objects) (drop l.note-index l.notes) ≡ map (renamed_note l.objects) l.notes;
  inside : AreIn (length l.objects) l.others;
  there : AreOf l.objects (drop l.note-index l.notes);
}
