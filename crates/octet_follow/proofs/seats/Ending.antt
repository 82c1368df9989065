-- What the last state has, and lists of seats.
use Rattle.std.proofs.Common.{◌≡◌, ℕ, zero, suc, ◌+◌, ◌*◌, ◌<◌, Bool, true, List, [], ◌∷◌, map, length, get_or, sym, ap, ◌∙◌, subst, arith, one-add}
use Rattle.std.proofs.lemmas.List.{length-map}
use Rattle.atomic_table.specs.Table.{Final, Seen}
use Rattle.octet_model.specs.declared.event.Mark.{Mark}
use Rattle.octet_seats.specs.Rows.{AreInRow}
use Rattle.octet_follow.specs.State.{FollowerState, CourseState, follower_of, unbegun, words}
use Rattle.octet_follow.specs.declared.words.Seat.{Seat}
use Rattle.octet_follow.specs.declared.words.Words.{Words}
use Rattle.octet_follow.specs.Views.{FollowerView}
use Rattle.octet_seats.specs.Cells.{cells_in}
use Rattle.octet_seats.specs.Seats.{AreJoined}
use Rattle.octet_seats.proofs.lemmas.Cells.{all_cells}
use Rattle.octet_seats.proofs.lemmas.Rows.{row_of, row_so, each_of, same_members}
use Rattle.octet_seats.proofs.lemmas.Seats.{left_at}
use Rattle.octet_follow.specs.Rule.{HasLeft, IsRuled}
use Rattle.octet_follow.specs.Seats.{view, BelongsTo, IsSeatOf, IsFresh, IsFreshSeat, EachFresh, EachOf, IsNumberedSeat, AreNumbered, left_by, Closes}
use Rattle.octet_follow.proofs.seats.Spread.{get_cell}

all_cells_of : (s : CourseState) → cells_in (words s) (8 * (length s.followers + 1)) (length s.cells) ≡ s.cells
all_cells_of s = all_cells (words s) s.cells (8 * (length s.followers + 1)) (λ object. let n : 8 * (length s.followers + 1) + 8 * object ≡ 8 * (length s.followers + suc object) = omega arith in ap (λ (z : ℕ). get_or (words s) z 0) n ∙ get_cell s object)

-- the seat of the first follower has taken the others back
pub closes : (starts : List ℕ) (followers : ℕ) (ws : List ℕ) (slots : List Mark) (id : ℕ) (w : Words) (seat : Seat) (seats : List Seat) (v : FollowerView)
    → v.is_live ≡ true → v.number ≡ 0 → v.follower ≡ (view seat).follower → v.joined ≡ map left_by seats → AreNumbered w 1 seats → 1 + length seats ≡ followers
    → Final (Seen (IsRuled starts followers) id v) ws slots → Closes starts (seat ∷ seats) (cells_in ws (8 * (followers + 1)) (length starts))
closes starts followers ws slots id w seat seats v live zeroth mine joined others all final =
    let r = final.1.0 in let it = r.seats.seated id v final.1.1 live in let s = r.state in let has_joined = r.seats.has_joined in
    let those : AreJoined (HasLeft s) has_joined (map left_by seats) = subst (λ (l : List (ℕ × FollowerState)). AreJoined (HasLeft s) has_joined l) joined (it.are_joined zeroth) in
    let many : length s.followers ≡ followers = r.many in
    let cells : length s.cells ≡ length starts = r.sound.wide ∙ ap (λ (z : List ℕ). length z) r.begins in
    let first : follower_of s 0 ≡ (view seat).follower = ap (follower_of s) (sym zeroth) ∙ (it.seen.stands ∙ mine) in record {
      last = s;
      sound = r.sound;
      begins = r.begins;
      are = same_members unbegun s.followers (map (λ (x : Seat). (view x).follower) (seat ∷ seats))
          (let e = length-map seats (λ (x : Seat). (view x).follower) in omega arith)
          (λ t h. at_number s has_joined w seats others those seat first t (omega arith));
      cells = sym ((λ i. cells_in ((sym final.2 ∙ r.lie) i) (8 * (sym many i + 1)) (sym cells i)) ∙ all_cells_of s);
    }
  where
    at_number : (s : CourseState) (has_joined : ℕ → Bool) (w : Words) (seats : List Seat) → AreNumbered w 1 seats → AreJoined (HasLeft s) has_joined (map left_by seats) → (seat : Seat) → follower_of s 0 ≡ (view seat).follower
        → (t : ℕ) → t < 1 + length seats → follower_of s t ≡ get_or (map (λ (x : Seat). (view x).follower) (seat ∷ seats)) t unbegun
    at_number s has_joined w seats row those seat first zero h = first
    at_number s has_joined w seats row those seat first (suc t) h = let n : suc t ≡ 1 + t = omega arith in ap (follower_of s) n
        ∙ left_at (λ (x : Seat). (view x).number) (λ (x : Seat). (view x).follower) (IsNumberedSeat w) (HasLeft s) has_joined (λ k x it. it.1) 1 seats row those t unbegun (omega arith)

-- the first of all seats, and the others
pub record IsParted (w : Words) (seat : Seat) (seats : List Seat) : Type 0 where
  pub own : BelongsTo w seat
  pub zeroth : (view seat).number ≡ 0
  pub none_joined : (view seat).joined ≡ []
  pub others : AreNumbered w 1 seats
  pub all : 1 + length seats ≡ w.followers

pub parted : (w : Words) (xs seats : List Seat) (seat : Seat) → xs ≡ seat ∷ seats → EachOf w xs → length xs ≡ w.followers → IsParted w seat seats
parted w xs seats seat is each all = from (subst (EachOf w) is each) (ap (λ (l : List Seat). length l) (sym is) ∙ all)
  where
    from : EachOf w (seat ∷ seats) → length (seat ∷ seats) ≡ w.followers → IsParted w seat seats
    from each all = let row = row_of (λ t s. IsSeatOf w s × ((view s).number ≡ t)) (seat ∷ seats) each in record {
      own = row.0.0.0;
      zeroth = row.0.1;
      none_joined = row.0.0.2 row.0.1;
      others = row_so (λ t s. IsSeatOf w s × ((view s).number ≡ t)) (IsNumberedSeat w) 1 seats (λ t s h both. (both.0.0, both.1)) row.1;
      all = one-add (length seats) ∙ all;
    }

each : (w : Words) (seat : Seat) (seats : List Seat) → BelongsTo w seat → IsFresh 0 seat → (view seat).followers_made ≡ w.followers → (view seat).joined ≡ [] → AreInRow (IsFreshSeat w) 1 seats → EachFresh w (seat ∷ seats)
each w seat seats own new followers_made joined others = each_of (λ t s. IsSeatOf w s × IsFresh t s) (seat ∷ seats) (
  ((own, (λ _. followers_made), λ _. joined), new),
  row_so (IsFreshSeat w) (λ t s. IsSeatOf w s × IsFresh t s) 1 seats (λ t s h both. let n : (view s).number ≡ t = both.1.0 in ((both.0, (λ z. absurd (omega arith)), λ z. absurd (omega arith)), both.1)) others,
)

pub each_fresh : (w : Words) (xs seats : List Seat) (seat : Seat) → xs ≡ seat ∷ seats → BelongsTo w seat → IsFresh 0 seat → (view seat).followers_made ≡ w.followers → (view seat).joined ≡ [] → AreInRow (IsFreshSeat w) 1 seats → EachFresh w xs
each_fresh w xs seats seat is own new followers_made joined others = subst (EachFresh w) (sym is) (each w seat seats own new followers_made joined others)
