-- The markers of a heap, by their seats.
use Rattle.std.proofs.Common.{◌≡◌, ◌∙◌, inl, ℕ, zero, suc, ◌<◌, List, [], ◌∷◌, ◌++◌, length, Option, None, sym, refl, ap, arith, subst, slice_index_or}
use Rattle.octet_state.specs.declared.phase.Phase.TheVariants.{Off}
use Rattle.octet_state.specs.State.{Thread}
use Rattle.octet_rule.specs.declared.words.Seat.{Seat}
use Rattle.octet_rule.specs.Seats.{threads_of, objects_of, EachFresh}
use Rattle.octet_rule.specs.Seats as rule
use Rattle.octet_heap.specs.declared.heap.Heap.{Heap}
use Rattle.octet_heap.specs.declared.pending_access.PendingAccess.{PendingAccess}
use Rattle.octet_heap.specs.declared.pending_update.PendingUpdate.{PendingUpdate}
use Rattle.octet_heap.specs.declared.marker.Marker.{Marker}
use Rattle.octet_heap.specs.Standing.{begun_of, IsOne, IsAbout, IsAtRest, IsWithin}
use Rattle.octet_heap.specs.Markers.{marker_seat, marker_seats, begun_by, HasRoomIf, IsMarkerOf, IsPlain, ArePlain, IsNew, EachNew, Starts, EachStarts, EachRests}
use Rattle.octet_heap.proofs.Modelled.{same_standing}
use Rattle.octet_heap.proofs.Seating.{map_more, map_length}

plain_more : (marks : ℕ) (markers : List Marker) (marker : Marker) → ArePlain marks markers → IsPlain marks marker → ArePlain marks (markers ++ marker ∷ [])
plain_more marks [] marker plain is = (is, tt)
plain_more marks (w ∷ markers) marker plain is = (plain.0, plain_more marks markers marker plain.1 is)

plain_at : (marks : ℕ) (markers : List Marker) (thread : ℕ) (none : Marker) → ArePlain marks markers → thread < length markers → IsPlain marks (slice_index_or markers thread none)
plain_at marks [] thread none plain there = absurd (omega (arith, there))
plain_at marks (w ∷ markers) zero none plain there = plain.0
plain_at marks (w ∷ markers) (suc thread) none plain there = plain_at marks markers thread none plain.1 (omega (arith, there))

pub marked_more : (marks : ℕ) (seats : List Seat) (markers : List Marker) (marker : Marker) (seat : Seat) → marker_seats markers ≡ seats → ArePlain marks markers
    → marker.recorder.seat ≡ seat → IsPlain marks marker → (marker_seats (markers ++ marker ∷ []) ≡ seats ++ seat ∷ []) × ArePlain marks (markers ++ marker ∷ [])
marked_more marks seats markers marker seat are plain is this = (
  map_more (λ (w : Marker). w.recorder.seat) markers marker ∙ (λ i. are i ++ is i ∷ []),
  plain_more marks markers marker plain this,
)

seat_at : (markers : List Marker) (thread : ℕ) (none : Marker) → slice_index_or (marker_seats markers) thread none.recorder.seat ≡ (slice_index_or markers thread none).recorder.seat
seat_at [] thread none = refl
seat_at (w ∷ markers) zero none = refl
seat_at (w ∷ markers) (suc thread) none = seat_at markers thread none

pub same_count : (markers : List Marker) (seats : List Seat) → marker_seats markers ≡ seats → length markers ≡ length seats
same_count markers seats are = sym (map_length (λ (w : Marker). w.recorder.seat) markers) ∙ ap (λ (l : List Seat). length l) are

pub each_new : (heap : Heap) (marks : ℕ) (seats : List Seat) (markers : List Marker) → marker_seats markers ≡ seats → ArePlain marks markers → EachFresh heap.words seats → EachNew heap marks markers
each_new heap marks seats markers are plain fresh thread none there =
    let w = slice_index_or markers thread none in
    let here : thread < length seats = let a = ap (λ (l : List Seat). length l) are in let b = map_length (λ (x : Marker). x.recorder.seat) markers in omega (arith, there) in
    let is : slice_index_or seats thread none.recorder.seat ≡ w.recorder.seat = ap (λ (l : List Seat). slice_index_or l thread none.recorder.seat) (sym are) ∙ seat_at markers thread none in
    let own = subst (λ (s : Seat). rule.IsSeatOf heap.words s × rule.IsFresh thread s) is (fresh thread none.recorder.seat here) in
    let p = plain_at marks markers thread none plain there in
    let nothing : begun_by w ≡ None = ap (λ (o : Option PendingAccess). begun_of o w.changing) p.0 ∙ ap (λ (o : Option PendingUpdate). begun_of None o) p.1 in
    let off : (marker_seat w).thread.phase ≡ Off = ap (λ (x : Thread). x.phase) own.1.1 in (
      record {
        own = own.0;
        owes_nothing = ap (λ (x : Thread). x.due) own.1.1;
        one = subst (λ (o : Option PendingAccess). IsOne o w.changing) (sym p.0) tt;
        about = subst (λ (o : Option PendingAccess). IsAbout (marker_seat w).threads o (marker_seat w).thread.phase) (sym nothing) (subst IsAtRest (sym off) tt);
        ready = subst (λ (o : Option PendingAccess). HasRoomIf o w.recorder) (sym nothing) tt;
        within = subst (IsWithin (objects_of heap.words)) (sym nothing) tt;
      },
      own.1.0,
      own.1.1,
      own.1.2,
      own.1.3,
      p,
    )

pub resting_seats : (heap : Heap) (seats : List Seat) (markers : List Marker) → seats ≡ marker_seats markers → length markers ≡ threads_of heap.words → EachRests heap markers → (length seats ≡ threads_of heap.words) × rule.EachRests heap.words seats
resting_seats heap seats markers are all still = let many = ap (λ (l : List Seat). length l) are ∙ map_length (λ (x : Marker). x.recorder.seat) markers in (
  many ∙ all,
  λ thread none there. rests_at thread none (omega (arith, there, many)),
)
  where
    item : (ws : List Marker) (thread : ℕ) (none : Seat) → thread < length ws → (marker : Marker) × (slice_index_or (marker_seats ws) thread none ≡ marker.recorder.seat) × ((other : Marker) → slice_index_or ws thread other ≡ marker)
    item [] thread none there = absurd (omega (arith, there))
    item (w ∷ ws) zero none there = (w, refl, λ other. refl)
    item (w ∷ ws) (suc thread) none there = item ws thread none (omega (arith, there))

    rests_at : (thread : ℕ) (none : Seat) → thread < length markers → rule.IsSeatOf heap.words (slice_index_or seats thread none) × rule.RestsAs thread (slice_index_or seats thread none)
    rests_at thread none there = let found = item markers thread none there in
        let h = subst (λ (w : Marker). IsMarkerOf heap w × ((marker_seat w).number ≡ thread) × rule.RestsAs thread w.recorder.seat) (found.2 found.0) (let s = still thread found.0 there in (s.0, s.1, (s.1, s.2))) in
        subst (λ (s : Seat). rule.IsSeatOf heap.words s × rule.RestsAs thread s) (sym (ap (λ (l : List Seat). slice_index_or l thread none) are ∙ found.1)) (h.0.own, h.2)

-- a new marker starts
starts : (heap : Heap) (marks thread : ℕ) (marker : Marker) → IsNew heap marks thread marker → Starts heap thread marker
starts heap marks thread marker new = record {
  own = new.0;
  rests = inl (ap (λ (x : Thread). x.phase) new.2);
  number = new.1;
  standing = same_standing marker.pending None marker.changing None _ Off new.5.0 new.5.1 (ap (λ (x : Thread). x.phase) new.2);
  journal = new.3;
}

pub each_starts : (heap : Heap) (marks : ℕ) (markers : List Marker) → EachNew heap marks markers → EachStarts heap markers
each_starts heap marks markers new thread none there = starts heap marks thread (slice_index_or markers thread none) (new thread none there)
