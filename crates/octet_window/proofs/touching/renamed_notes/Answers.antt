use Rattle.std.proofs.Common.{◌≡◌, ◌<◌, ◌+◌, ◌++◌, List, length, map, drop, sym, subst, arith}
use Rattle.octet_window.specs.declared.notes.Note.{Note}
use Rattle.octet_window.specs.Noting.{renamed_note, AreIn}
use Rattle.octet_window.proofs.Noting.{are_in_more, mapped_more, of_step}
use Rattle.octet_window.proofs.touching.renamed_notes.Goals as goal

pub loop-note-preserved : goal.loop-note-preserved
loop-note-preserved c =
    let k = c.loop-note.note-index in
    let lt : k < length c.args.notes.now = omega arith in record {
      renamed = subst (λ (l : List Note). l ++ map (renamed_note c.args.objects.now) (drop (k + 1) c.args.notes.now) ≡ map (renamed_note c.args.objects.now) c.args.notes.now) (sym c.in_ok-push.ensures.ok)
          (mapped_more (renamed_note c.args.objects.now) c.args.notes.now c.loop-note.others k _ c.renamed_note.result lt c.loop-note.invariant.renamed c.renamed_note.ensures.renamed);
      inside = subst (λ (l : List Note). AreIn (length c.args.objects.now) l) (sym c.in_ok-push.ensures.ok)
          (are_in_more (length c.args.objects.now) c.loop-note.others c.renamed_note.result c.loop-note.invariant.inside c.renamed_note.ensures.inside);
      there = of_step c.args.objects.now c.args.notes.now k c.renamed_note.result lt c.loop-note.invariant.there;
    }
