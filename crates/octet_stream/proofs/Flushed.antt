-- A track of which nothing is left to hand on.
use Rattle.std.proofs.Common.{◌≡◌, ◌∙◌, ℕ, suc, ◌≤◌, List, [], ◌∷◌, length, drop, refl, sym, ap, arith, length-append}
use Rattle.rtrb.specs.Ring.{sent}
use Rattle.octet_model.specs.declared.event.Event.{Event}
use Rattle.octet_model.specs.declared.event.Event.TheVariants.{Read, Write, Update, Marked}
use Rattle.octet_model.specs.Journals.{gap_after, gapped_marks}
use Rattle.octet_heap.specs.Markers.{base_of}
use Rattle.octet_stream.specs.declared.long_run.LongRun.{LongRun}
use Rattle.octet_stream.specs.declared.track.Track.{Track}
use Rattle.octet_stream.specs.Items.{joined}
use Rattle.octet_stream.specs.Next.{HasHandedAllOn}
use Rattle.octet_stream.specs.Tracks.{journal_of, IsTrackOf}
use Rattle.octet_stream.proofs.Sent.{left_is}

no_less : (n : ℕ) (l : List Event) → length (gapped_marks n l) ≡ 0 → n ≤ gap_after n l
no_less n [] none = omega arith
no_less n (Marked mark ∷ l) none = absurd (omega (arith, none))
no_less n (Read object value ∷ l) none = let h = no_less (suc n) l none in omega (arith, h)
no_less n (Write object value ∷ l) none = let h = no_less (suc n) l none in omega (arith, h)
no_less n (Update object old new ∷ l) none = let h = no_less (suc n) l none in omega (arith, h)

none_left : (l : List Event) → length (gapped_marks 0 l) ≡ 0 → gap_after 0 l ≡ 0 → length l ≡ 0
none_left [] none gap = refl
none_left (Marked mark ∷ l) none gap = absurd (omega (arith, none))
none_left (Read object value ∷ l) none gap = absurd (let h = no_less 1 l none in omega (arith, h, gap))
none_left (Write object value ∷ l) none gap = absurd (let h = no_less 1 l none in omega (arith, h, gap))
none_left (Update object old new ∷ l) none gap = absurd (let h = no_less 1 l none in omega (arith, h, gap))

pub nothing_left : (run : LongRun) (track : Track) → IsTrackOf run track → length (gapped_marks 0 (drop (base_of track.marker) (journal_of track))) ≡ 0
    → gap_after 0 (drop (base_of track.marker) (journal_of track)) ≡ 0 → HasHandedAllOn track
nothing_left run track own none gap =
    let are = own.items in
    let left = left_is (journal_of track) (base_of track.marker) track.ended (sent track.sender) are in
    let empty = none_left are.left (ap (λ (l : List Event). length (gapped_marks 0 l)) (sym left) ∙ none) (ap (λ (l : List Event). gap_after 0 l) (sym left) ∙ gap) in
    let long = ap (λ (l : List Event). length l) are.cut in
    let first = are.first in
    let parts = length-append (joined are.blocks) are.left in omega (arith, empty, long, first, parts)
