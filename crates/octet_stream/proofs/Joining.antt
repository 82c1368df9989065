-- An access that is made right after the one before it.
use Rattle.std.proofs.Common.{◌≡◌, ◌∙◌, ℕ, ◌+◌, List, [], ◌∷◌, ◌++◌, map, length, drop, None, Ok, refl, ap, subst, arith, length-append, append_assoc}
use Rattle.rtrb.specs.Ring.{sent}
use Rattle.octet_model.specs.declared.event.Event.{Event}
use Rattle.octet_model.specs.declared.event.Event.TheVariants as event
use Rattle.octet_model.specs.declared.event.Mark.{Mark}
use Rattle.octet_model.specs.declared.log.Gapped.{Gapped}
use Rattle.octet_model.specs.Journals.{gap_after, gapped_marks, mark_count}
use Rattle.octet_model.proofs.lemmas.Splits.{gapped_marks_split, length-gapped_marks}
use Rattle.octet_rerun.specs.Events.{event_of}
use Rattle.octet_rule.specs.Views.{SeatView}
use Rattle.octet_heap.specs.Markers.{marker_seat, base_of}
use Rattle.octet_recorder.specs.declared.access.Access.{Access}
use Rattle.octet_recorder.specs.declared.access.Access.TheVariants as want
use Rattle.octet_session.specs.Asking.{Asks}
use Rattle.octet_session.specs.Standing.{Standing}
use Rattle.octet_stream.specs.declared.long_run.Full.{Full}
use Rattle.octet_stream.specs.declared.long_run.LongRun.{LongRun}
use Rattle.octet_stream.specs.declared.next.Next.TheVariants.{Joined}
use Rattle.octet_stream.specs.declared.track.Track.{Track}
use Rattle.octet_stream.specs.Accesses.{track_standing, PollsReady}
use Rattle.octet_stream.specs.Items.{joined}
use Rattle.octet_stream.specs.Next.{ComesNext}
use Rattle.octet_stream.specs.Tracks.{journal_of, wanted_in, IsTrackOf, HandsOn}
use Rattle.octet_stream.proofs.Sent.{left_is}

no_mark : (wanted : Access) (found : ℕ) → mark_count (event_of wanted found ∷ []) ≡ 0
no_mark (want.Read object) found = refl
no_mark (want.Write object value) found = refl
no_mark (want.Update object change) found = refl

marks_of : (marks : List Mark) (access : Event) → mark_count (map (λ mark. event.Marked mark) marks ++ access ∷ []) ≡ length marks + mark_count (access ∷ [])
marks_of [] access = omega arith
marks_of (mark ∷ marks) access = let h = marks_of marks access in omega (arith, h)

drop_joined : (xs ys : List Event) → drop (length xs) (xs ++ ys) ≡ ys
drop_joined [] ys = refl
drop_joined (x ∷ xs) ys = drop_joined xs ys

is_empty : {A : Type 0} (xs : List A) → length xs ≡ 0 → xs ≡ []
is_empty [] none = refl
is_empty (x ∷ xs) none = absurd (omega (arith, none))

module _ (run : LongRun) (wanted : Access) (value : ℕ) (v w : Track) (own : IsTrackOf run v) (asks : Asks {H = Full} wanted (track_standing v) (Ok value) (track_standing w))
    (base : base_of w.marker ≡ base_of v.marker) (same : length (gapped_marks 0 (drop (base_of w.marker) (journal_of w))) ≡ length (gapped_marks 0 (drop (base_of v.marker) (journal_of v)))) where
  abbrev more : List Event
  more = map (λ (mark : Mark). event.Marked mark) asks.journal.marks ++ event_of wanted asks.journal.found ∷ []

  abbrev left : List Event
  left = own.items.left

  before : drop (base_of v.marker) (journal_of v) ≡ left
  before = left_is (journal_of v) (base_of v.marker) v.ended (sent v.sender) own.items

  after : drop (base_of w.marker) (journal_of w) ≡ left ++ more
  after =
      (λ i. drop ((base ∙ own.items.first) i) ((asks.journal.grown ∙ (ap (λ (l : List Event). l ++ more) own.items.cut ∙ append_assoc (joined own.items.blocks) left more)) i))
      ∙ drop_joined (joined own.items.blocks) (left ++ more)

  none : length asks.journal.marks ≡ 0
  none =
      let a = ap (λ (l : List Event). length (gapped_marks 0 l)) before in
      let b = ap (λ (l : List Event). length (gapped_marks 0 l)) after in
      let c = ap (λ (l : List Gapped). length l) (gapped_marks_split 0 left more) in
      let d = length-append (gapped_marks 0 left) (gapped_marks (gap_after 0 left) more) in
      let e = length-gapped_marks (gap_after 0 left) more in
      let f = marks_of asks.journal.marks (event_of wanted asks.journal.found) in
      let g = no_mark wanted asks.journal.found in
      omega (arith, same, a, b, c, d, e, f, g)

  grown : journal_of w ≡ journal_of v ++ event_of wanted asks.journal.found ∷ []
  grown = asks.journal.grown ∙ ap (λ (marks : List Mark). journal_of v ++ (map (λ (mark : Mark). event.Marked mark) marks ++ event_of wanted asks.journal.found ∷ [])) (is_empty asks.journal.marks none)

  module _ (u : Track) (on : HandsOn u v) (ready : PollsReady wanted (marker_seat v.marker) (marker_seat w.marker)) where
    stands : track_standing v ≡ track_standing u
    stands = λ i. record {
      number = (on.seat i).number;
      journal = (on.seat i).journal;
      begun = wanted_in (on.stage i);
      region = on.region i;
      left = None;
    }

    pub joined_after : ComesNext wanted u (Joined value) w
    joined_after = (
      subst (λ (s : Standing). Asks {H = Full} wanted s (Ok value) (track_standing w)) stands asks,
      record {
        ready = subst (λ (s : SeatView). PollsReady wanted s (marker_seat w.marker)) on.seat ready;
        found = asks.journal.found;
        grown = grown ∙ ap (λ (s : SeatView). s.journal ++ event_of wanted asks.journal.found ∷ []) on.seat;
        told = asks.journal.told;
      },
    )
