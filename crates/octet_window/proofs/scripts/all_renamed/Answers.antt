use Rattle.std.proofs.Common.{◌≡◌, ◌<◌, ◌+◌, ◌++◌, List, length, map, drop, sym, ap, ◌∙◌, subst, arith}
use Rattle.octet_window.specs.declared.notes.Note.{Note}
use Rattle.octet_window.specs.declared.notes.Notes.{Notes}
use Rattle.octet_window.specs.Noting.{notes_in, renamed_note, AllIn}
use Rattle.octet_window.specs.Playing.{all_renamed}
use Rattle.octet_window.proofs.Noting.{mapped_more}
use Rattle.octet_window.proofs.Valid.{all_in_more, all_of_step}
use Rattle.octet_window.proofs.scripts.all_renamed.Goals as goal

pub loop-thread-preserved : goal.loop-thread-preserved
loop-thread-preserved c =
    let objects = c.args.objects.now in
    let threads = c.args.threads.now in
    let k = c.loop-thread.thread-index in
    let lt : k < length threads = omega arith in
    let pushed = c.in_ok-push.ensures.items in record {
      renamed = subst (λ (l : List (List Note)). l ++ all_renamed objects (drop (k + 1) threads) ≡ all_renamed objects threads) (sym pushed)
          (mapped_more (λ (notes : Notes). map (renamed_note objects) (notes_in notes)) threads c.loop-thread.others.items k _ _ lt c.loop-thread.invariant.renamed
          (c.in_ok-renamed_notes.ensures.renamed ∙ ap (λ (l : List Note). map (renamed_note objects) l) (c.as_slice.ensures.value ∙ ap (λ (n : Notes). notes_in n) c.thread-item.is)));
      inside = subst (λ (l : List (List Note)). AllIn (length objects) l) (sym pushed) (all_in_more (length objects) c.loop-thread.others.items _ c.loop-thread.invariant.inside c.in_ok-renamed_notes.ensures.inside);
      there = all_of_step objects threads k c.thread-item.result lt c.loop-thread.invariant.there;
    }
