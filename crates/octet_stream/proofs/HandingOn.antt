-- A track stays one of its run while it hands a block on.
use Rattle.std.proofs.Common.{◌≡◌, ◌∙◌, ℕ, Bool, false, List, ◌∷◌, ◌++◌, map, length, drop, sym, ap, subst, arith}
use Rattle.rtrb.specs.Ring.{sent, producer_capacity}
use Rattle.octet_model.specs.declared.event.Event.{Event}
use Rattle.octet_model.specs.Journals.{gap_after, gapped_marks}
use Rattle.octet_digest.specs.Digests.{bits_of, digest_of}
use Rattle.octet_heap.specs.declared.marker.Marker.{Marker}
use Rattle.octet_heap.specs.Markers.{marker_seat, base_of, IsMarkerOf, IsEmptied}
use Rattle.octet_stream.specs.declared.item.Item.TheVariants.{Marked, BlockEnd}
use Rattle.octet_stream.specs.declared.long_run.LongRun.{LongRun}
use Rattle.octet_stream.specs.declared.track.Stage.{Stage}
use Rattle.octet_stream.specs.declared.track.Stage.TheVariants.{Free, Asked, Begun}
use Rattle.octet_stream.specs.declared.track.Track.{Track}
use Rattle.octet_stream.specs.Items.{items_of_end, AreOf}
use Rattle.octet_stream.specs.Tracks.{journal_of, StandsAt, IsTrackOf}
use Rattle.octet_stream.proofs.Sent.{hands_block}

stands_same : (stage : Stage) (before after : Marker) → after.pending ≡ before.pending → after.changing ≡ before.changing → marker_seat after ≡ marker_seat before → StandsAt stage before → StandsAt stage after
stands_same Free before after access update seat stands = (access ∙ stands.0, update ∙ stands.1)
stands_same (Asked wanted) before after access update seat stands = (ap (λ s. s.thread.phase) seat ∙ stands.0, access ∙ stands.1, update ∙ stands.2)
stands_same (Begun wanted) before after access update seat stands = (access ∙ stands.0, update ∙ stands.1)

-- a block is handed on, and the thread's end where it ends
pub handed_on : (run : LongRun) (v w : Track) (ends : Bool) → IsTrackOf run v → v.ended ≡ false
    → IsMarkerOf run.heap w.marker → marker_seat w.marker ≡ marker_seat v.marker → w.marker.pending ≡ v.marker.pending → w.marker.changing ≡ v.marker.changing → IsEmptied v.marker w.marker
    → w.digest ≡ v.digest → w.stage ≡ v.stage → w.ended ≡ ends → producer_capacity w.sender ≡ producer_capacity v.sender
    → sent w.sender ≡ (sent v.sender ++ map (λ mark. Marked mark) (gapped_marks 0 (drop (base_of v.marker) (journal_of v)))) ++ (BlockEnd (gap_after 0 (drop (base_of v.marker) (journal_of v))) (bits_of v.digest) ∷ items_of_end ends)
    → IsTrackOf run w
handed_on run v w ends own running still seat access update emptied digest stage ended capacity items =
    let journal : journal_of w ≡ journal_of v = ap (λ s. s.journal) seat in
    let all = drop (base_of v.marker) (journal_of v) in
    let before : AreOf (journal_of v) (base_of v.marker) false (sent v.sender) = subst (λ (e : Bool). AreOf (journal_of v) (base_of v.marker) e (sent v.sender)) running own.items in
    let same : sent w.sender ≡ (sent v.sender ++ map (λ mark. Marked mark) (gapped_marks 0 all)) ++ (BlockEnd (gap_after 0 all) (digest_of (journal_of v)) ∷ items_of_end ends) =
    items ∙ ap (λ (d : ℕ). (sent v.sender ++ map (λ mark. Marked mark) (gapped_marks 0 all)) ++ (BlockEnd (gap_after 0 all) d ∷ items_of_end ends)) own.digest in
    let after = hands_block (journal_of v) (base_of v.marker) (sent v.sender) (sent w.sender) ends before same in record {
      own = still;
      stands = subst (λ (s : Stage). StandsAt s w.marker) (sym stage) (stands_same v.stage v.marker w.marker access update seat own.stands);
      digest = ap (λ d. bits_of d) digest ∙ (own.digest ∙ ap (λ (l : List Event). digest_of l) (sym journal));
      items =
          subst (λ (e : Bool). AreOf (journal_of w) (base_of w.marker) e (sent w.sender)) (sym ended)
          (subst (λ (n : ℕ). AreOf (journal_of w) n ends (sent w.sender)) (sym emptied.0) (subst (λ (l : List Event). AreOf l (length (journal_of v)) ends (sent w.sender)) (sym journal) after));
      buffer = omega (arith, own.buffer, emptied.1);
      ring = omega (arith, own.ring, emptied.1, capacity);
    }
