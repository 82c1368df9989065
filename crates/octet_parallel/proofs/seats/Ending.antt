-- What the last state has, and lists of seats.
use Rattle.std.proofs.Common.{◌≡◌, ℕ, zero, suc, ◌+◌, ◌*◌, ◌<◌, Bool, true, List, [], ◌∷◌, map, length, get_or, sym, refl, ap, ◌∙◌, subst, arith, one-add}
use Rattle.std.proofs.lemmas.List.{length-map}
use Rattle.atomic_table.specs.Table.{Final, Seen}
use Rattle.octet_model.specs.declared.script.Script.{Script}
use Rattle.octet_model.specs.declared.log.Log.{Log}
use Rattle.octet_seats.specs.Rows.{AreInRow}
use Rattle.octet_parallel.specs.State.{FieldState, player_of, unbegun, words}
use Rattle.octet_parallel.specs.declared.words.Seat.{Seat}
use Rattle.octet_parallel.specs.declared.words.Words.{Words}
use Rattle.octet_parallel.specs.Views.{PlayerView, Left, left_of}
use Rattle.octet_parallel.specs.Runs.{PlayerStep, field_after, steps_of}
use Rattle.octet_seats.specs.Cells.{cells_in}
use Rattle.octet_seats.specs.Seats.{AreJoined}
use Rattle.octet_seats.proofs.lemmas.Cells.{all_cells}
use Rattle.octet_seats.proofs.lemmas.Rows.{row_of, row_so, each_of, same_members}
use Rattle.octet_seats.proofs.lemmas.Seats.{left_at}
use Rattle.octet_parallel.specs.Rule.{HasLeft, IsRuled}
use Rattle.octet_parallel.specs.Seats.{view, BelongsTo, IsSeatOf, IsFresh, IsFreshSeat, EachFresh, EachOf, IsNumberedSeat, AreNumbered, left_by, Closes}
use Rattle.octet_parallel.proofs.seats.Spread.{get_cell}
use Rattle.octet_parallel.proofs.steps.Keeping.{many_cells}
use Rattle.octet_parallel.proofs.steps.Kept.{script_after, log_after}

all_cells_of : (s : FieldState) → cells_in (words s) (8 * length s.players) (length s.cells) ≡ s.cells
all_cells_of s = all_cells (words s) s.cells (8 * length s.players) (λ object. let n : 8 * length s.players + 8 * object ≡ 8 * (length s.players + object) = omega arith in ap (λ (z : ℕ). get_or (words s) z 0) n ∙ get_cell s object)

-- what the seats leave, by their numbers
player_at : (xs : List Seat) (k : ℕ) (none : Left) → none.player ≡ unbegun → (get_or (map (λ (x : Seat). left_of (view x)) xs) k none).player ≡ get_or (map (λ (x : Seat). (view x).player) xs) k unbegun
player_at [] k none e = e
player_at (x ∷ xs) zero none e = refl
player_at (x ∷ xs) (suc k) none e = player_at xs k none e

trail_at : (xs : List Seat) (k : ℕ) (none : Left) (other : Seat) → k < length xs → (get_or (map (λ (x : Seat). left_of (view x)) xs) k none).trail ≡ (view (get_or xs k other)).trail
trail_at [] k none other h = absurd (omega arith)
trail_at (x ∷ xs) zero none other h = refl
trail_at (x ∷ xs) (suc k) none other h = trail_at xs k none other (omega arith)

-- the players after the first
module _ (script : Script) (log : Log) (run : List PlayerStep) (has_joined : ℕ → Bool) (w : Words) (seats : List Seat) (row : AreNumbered w 1 seats) (those : AreJoined (HasLeft script log run) has_joined (map left_by seats)) where
  abbrev none : Left
  none = record { player = unbegun; trail = [] }

  left : (k : ℕ) → k < length seats → HasLeft script log run (1 + k) (get_or (map (λ (x : Seat). left_of (view x)) seats) k none)
  left k h = left_at (λ (x : Seat). (view x).number) (λ (x : Seat). left_of (view x)) (IsNumberedSeat w) (HasLeft script log run) has_joined (λ n x it. it.1) 1 seats row those k none h

  players_are : (seat : Seat) → player_of (field_after script log run) 0 ≡ (view seat).player → (t : ℕ) → t < 1 + length seats
      → player_of (field_after script log run) t ≡ get_or (map (λ (x : Seat). (view x).player) (seat ∷ seats)) t unbegun
  players_are seat first zero h = first
  players_are seat first (suc t) h = let n : suc t ≡ 1 + t = omega arith in ap (player_of (field_after script log run)) n ∙ ((left t (omega arith)).stands ∙ player_at seats t none refl)

  trails_are : (seat : Seat) → steps_of 0 script log run ≡ (view seat).trail → (t : ℕ) (other : Seat) → t < length (seat ∷ seats) → steps_of t script log run ≡ (view (get_or (seat ∷ seats) t other)).trail
  trails_are seat first zero other h = first
  trails_are seat first (suc t) other h = let n : suc t ≡ 1 + t = omega arith in ap (λ (u : ℕ). steps_of u script log run) n ∙ ((left t (omega arith)).trail ∙ trail_at seats t none other (omega arith))

-- the seat of the first player has taken the others back
pub closes : (script : Script) (log : Log) (ws : List ℕ) (slots : List (Unit {0})) (id : ℕ) (w : Words) (seat : Seat) (seats : List Seat) (v : PlayerView)
    → v.is_live ≡ true → v.number ≡ 0 → v.player ≡ (view seat).player → v.trail ≡ (view seat).trail → v.joined ≡ map left_by seats → AreNumbered w 1 seats → 1 + length seats ≡ length log.threads
    → Final (Seen (IsRuled script log) id v) ws slots → Closes script log (seat ∷ seats) (cells_in ws (8 * length log.threads) (length script.objects))
closes script log ws slots id w seat seats v live zeroth mine trail joined others all final =
    let r = final.1.0 in let run = r.run in let it = r.seats.seated id v final.1.1 live in let seen = it.seen.seen in let s = field_after script log run in let has_joined = r.seats.has_joined in
    let those : AreJoined (HasLeft script log run) has_joined (map left_by seats) = subst (λ (l : List (ℕ × Left)). AreJoined (HasLeft script log run) has_joined l) joined (it.are_joined zeroth) in
    let players : length s.players ≡ length log.threads = seen.sound.as_many ∙ ap (λ (l : Log). length l.threads) (log_after script log run) in
    let cells : length s.cells ≡ length script.objects = many_cells s seen.sound ∙ ap (λ (z : Script). length z.objects) (script_after script log run) in
    let first : player_of s 0 ≡ (view seat).player = ap (player_of s) (sym zeroth) ∙ (seen.stands ∙ mine) in record {
      run = run;
      is_run = r.is_run;
      trails = trails_are script log run has_joined w seats others those seat (ap (λ (n : ℕ). steps_of n script log run) (sym zeroth) ∙ (it.seen.trail ∙ trail));
      last = s;
      after = refl;
      sound = seen.sound;
      is_script = script_after script log run;
      is_log = log_after script log run;
      players = same_members unbegun s.players (map (λ (x : Seat). (view x).player) (seat ∷ seats))
          (let e = length-map seats (λ (x : Seat). (view x).player) in omega arith)
          (λ t h. players_are script log run has_joined w seats others those seat first t (omega arith));
      cells = sym ((λ i. cells_in ((sym final.2 ∙ r.lie) i) (8 * sym players i) (sym cells i)) ∙ all_cells_of s);
    }

-- the first of all seats, and the others
pub record IsParted (w : Words) (seat : Seat) (seats : List Seat) : Type 0 where
  pub own : BelongsTo w seat
  pub zeroth : (view seat).number ≡ 0
  pub none_joined : (view seat).joined ≡ []
  pub others : AreNumbered w 1 seats
  pub all : 1 + length seats ≡ w.players

pub parted : (w : Words) (xs seats : List Seat) (seat : Seat) → xs ≡ seat ∷ seats → EachOf w xs → length xs ≡ w.players → IsParted w seat seats
parted w xs seats seat is each all = from (subst (EachOf w) is each) (ap (λ (l : List Seat). length l) (sym is) ∙ all)
  where
    from : EachOf w (seat ∷ seats) → length (seat ∷ seats) ≡ w.players → IsParted w seat seats
    from each all = let row = row_of (λ t s. IsSeatOf w s × ((view s).number ≡ t)) (seat ∷ seats) each in record {
      own = row.0.0.0;
      zeroth = row.0.1;
      none_joined = row.0.0.2 row.0.1;
      others = row_so (λ t s. IsSeatOf w s × ((view s).number ≡ t)) (IsNumberedSeat w) 1 seats (λ t s h both. (both.0.0, both.1)) row.1;
      all = one-add (length seats) ∙ all;
    }

each : (w : Words) (seat : Seat) (seats : List Seat) → BelongsTo w seat → IsFresh 0 seat → (view seat).players_made ≡ w.players → (view seat).joined ≡ [] → AreInRow (IsFreshSeat w) 1 seats → EachFresh w (seat ∷ seats)
each w seat seats own new players_made joined others = each_of (λ t s. IsSeatOf w s × IsFresh t s) (seat ∷ seats) (
  ((own, (λ _. players_made), λ _. joined), new),
  row_so (IsFreshSeat w) (λ t s. IsSeatOf w s × IsFresh t s) 1 seats (λ t s h both. let n : (view s).number ≡ t = both.1.0 in ((both.0, (λ z. absurd (omega arith)), λ z. absurd (omega arith)), both.1)) others,
)

pub each_fresh : (w : Words) (xs seats : List Seat) (seat : Seat) → xs ≡ seat ∷ seats → BelongsTo w seat → IsFresh 0 seat → (view seat).players_made ≡ w.players → (view seat).joined ≡ [] → AreInRow (IsFreshSeat w) 1 seats → EachFresh w xs
each_fresh w xs seats seat is own new players_made joined others = subst (EachFresh w) (sym is) (each w seat seats own new players_made joined others)
