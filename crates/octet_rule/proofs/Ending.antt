-- What the last state has, and lists of seats.
use Rattle.std.proofs.Common.{◌≡◌, ℕ, zero, suc, ◌+◌, ◌*◌, ◌<◌, Bool, true, List, [], ◌∷◌, map, length, get_or, sym, refl, ap, ◌∙◌, subst, arith, one-add}
use Rattle.std.proofs.lemmas.List.{length-map}
use Rattle.atomic_table.specs.Table.{Final, Seen}
use Rattle.octet_model.specs.Machine.{journal_of}
use Rattle.octet_state.specs.State.{Thread, ProtocolState, thread_of, words, opening}
use Rattle.octet_state.specs.Steps.{ThreadStep, IsRun}
use Rattle.octet_state.specs.Soundness.{IsSound}
use Rattle.octet_state.proofs.lemmas.Places.{get_cell}
use Rattle.octet_rule.specs.declared.words.Seat.{Seat}
use Rattle.octet_rule.specs.declared.words.Words.{Words}
use Rattle.octet_rule.specs.Views.{SeatView, Left, left_of}
use Rattle.octet_rule.specs.Runs.{state_after, steps_of, all_off}
use Rattle.octet_rule.specs.Conditions.{IsResting}
use Rattle.octet_seats.specs.Cells.{cells_in}
use Rattle.octet_seats.specs.Rows.{AreInRow}
use Rattle.octet_seats.specs.Seats.{AreJoined}
use Rattle.octet_seats.proofs.lemmas.Cells.{all_cells}
use Rattle.octet_seats.proofs.lemmas.Rows.{row_of, row_so, each_of, same_members}
use Rattle.octet_seats.proofs.lemmas.Seats.{left_at}
use Rattle.octet_rule.specs.Rule.{HasLeft, IsRuled}
use Rattle.octet_rule.specs.Seats.{view, threads_of, BelongsTo, IsSeatOf, IsFresh, RestsAs, IsRestingSeat, AreResting, EachFresh, EachRests, left_by, Closes}
use Rattle.octet_rule.proofs.Runs.{threads_after, starts_after}
use Rattle.octet_rule.proofs.Kept.{sound_in, as_many_cells}
use Rattle.octet_rule.proofs.AllOff.{all_off_sound, each_off}

pub all_cells_of : (s : ProtocolState) → IsSound s → cells_in (words s) (8 * (1 + length s.threads) + 1) (length s.cells) ≡ s.cells
all_cells_of s sound = all_cells (words s) s.cells (8 * (1 + length s.threads) + 1) (λ object. let n : 8 * (1 + length s.threads) + 1 + 8 * object ≡ 8 * (1 + (length s.threads + object)) + 1 = omega arith in
    ap (λ (z : ℕ). get_or (words s) z 0) n ∙ get_cell s sound.form.statuses sound.form.states object)

-- what the seats leave, by their numbers
journal_at : (xs : List Seat) (k : ℕ) (none : Left) → none.journal ≡ [] → (get_or (map (λ (seat : Seat). left_of (view seat)) xs) k none).journal ≡ get_or (map (λ (seat : Seat). (view seat).journal) xs) k []
journal_at [] k none e = e
journal_at (x ∷ xs) zero none e = refl
journal_at (x ∷ xs) (suc k) none e = journal_at xs k none e

trail_at : (xs : List Seat) (k : ℕ) (none : Left) (other : Seat) → k < length xs → (get_or (map (λ (seat : Seat). left_of (view seat)) xs) k none).trail ≡ (view (get_or xs k other)).trail
trail_at [] k none other h = absurd (omega arith)
trail_at (x ∷ xs) zero none other h = refl
trail_at (x ∷ xs) (suc k) none other h = trail_at xs k none other (omega arith)

-- the threads after the first
module _ (threads : ℕ) (starts : List ℕ) (run : List ThreadStep) (has_joined : ℕ → Bool) (w : Words) (seats : List Seat) (still : AreResting w 1 seats) (those : AreJoined (HasLeft threads starts run) has_joined (map left_by seats)) where
  abbrev none : Left
  none = record { journal = []; trail = [] }

  left : (k : ℕ) → k < length seats → HasLeft threads starts run (1 + k) (get_or (map (λ (seat : Seat). left_of (view seat)) seats) k none)
  left k h = left_at (λ (seat : Seat). (view seat).number) (λ (seat : Seat). left_of (view seat)) (IsRestingSeat w) (HasLeft threads starts run) has_joined (λ n seat it. it.1.0) 1 seats still those k none h

  rest_at : IsResting (thread_of (state_after threads starts run) 0).phase → 1 + length seats ≡ threads → (t : ℕ) → t < length (state_after threads starts run).threads → IsResting (thread_of (state_after threads starts run) t).phase
  rest_at first all zero h = first
  rest_at first all (suc t) h = let many = threads_after threads starts run in let n : 1 + t ≡ suc t = omega arith in
      subst (λ (u : ℕ). IsResting (thread_of (state_after threads starts run) u).phase) n (left t (omega arith)).rests

  journals_are : (seat : Seat) → journal_of (state_after threads starts run).journals 0 ≡ (view seat).journal → (t : ℕ) → t < 1 + length seats
      → journal_of (state_after threads starts run).journals t ≡ journal_of (map (λ (x : Seat). (view x).journal) (seat ∷ seats)) t
  journals_are seat mine zero h = mine
  journals_are seat mine (suc t) h = let n : suc t ≡ 1 + t = omega arith in ap (journal_of (state_after threads starts run).journals) n ∙ ((left t (omega arith)).journal ∙ journal_at seats t none refl)

  trails_are : (seat : Seat) → steps_of 0 (opening threads starts) run ≡ (view seat).trail → (t : ℕ) (other : Seat) → t < length (seat ∷ seats)
      → steps_of t (opening threads starts) run ≡ (view (get_or (seat ∷ seats) t other)).trail
  trails_are seat mine zero other h = mine
  trails_are seat mine (suc t) other h = let n : suc t ≡ 1 + t = omega arith in ap (λ (u : ℕ). steps_of u (opening threads starts) run) n ∙ ((left t (omega arith)).trail ∙ trail_at seats t none other (omega arith))

-- the seat of thread 0 has taken the others back
pub closes : (threads : ℕ) (starts ws : List ℕ) (slots : List (Unit {0})) (id : ℕ) (w : Words) (seat : Seat) (seats : List Seat) (v : SeatView)
    → v.is_live ≡ true → v.number ≡ 0 → IsResting v.thread.phase → v.journal ≡ (view seat).journal → v.trail ≡ (view seat).trail → v.joined ≡ map left_by seats → AreResting w 1 seats → 1 + length seats ≡ threads
    → Final (Seen (IsRuled threads starts) id v) ws slots → Closes starts (seat ∷ seats) (cells_in ws (8 * (1 + threads) + 1) (length starts))
closes threads starts ws slots id w seat seats v live zeroth still mine trail joined others all final =
    let table = final.0 in let r = final.1.0 in let run = r.run in let it = r.seats.seated id v final.1.1 live in let s = state_after threads starts run in let has_joined = r.seats.has_joined in
    let those : AreJoined (HasLeft threads starts run) has_joined (map left_by seats) = subst (λ (l : List (ℕ × Left)). AreJoined (HasLeft threads starts run) has_joined l) joined (it.are_joined zeroth) in
    let many : length s.threads ≡ threads = threads_after threads starts run in
    let all' : length (seat ∷ seats) ≡ threads = sym (one-add (length seats)) ∙ all in
    let sound : IsSound s = sound_in threads starts table r in
    let rest : (t : ℕ) → t < length s.threads → IsResting (thread_of s t).phase = rest_at threads starts run has_joined w seats others those (subst (λ (x : Thread). IsResting x.phase) (sym it.seen.seen.stands ∙ ap (thread_of s) zeroth) still) all in
    let cells : length s.cells ≡ length starts = as_many_cells threads starts table r in
    let journal_0 : journal_of s.journals 0 ≡ (view seat).journal = ap (journal_of s.journals) (sym zeroth) ∙ (it.seen.seen.has_made ∙ mine) in
    record {
      run = run;
      is_run = subst (λ (n : ℕ). IsRun (opening n starts) run) (sym all') r.is_run;
      trails = λ thread other h. ap (λ (n : ℕ). steps_of thread (opening n starts) run) all' ∙ trails_are threads starts run has_joined w seats others those seat ((ap (λ (n : ℕ). steps_of n (opening threads starts) run) (sym zeroth)) ∙ (it.seen.trail ∙ trail)) thread other h;
      last = all_off s;
      after = ap (λ (n : ℕ). all_off (state_after n starts run)) (sym all');
      sound = all_off_sound s sound rest;
      began = starts_after threads starts run;
      off = each_off s;
      cells = sym ((λ i. cells_in ((sym final.2 ∙ r.lie) i) (8 * (1 + sym many i) + 1) (sym cells i)) ∙ all_cells_of s sound);
      journals = same_members [] s.journals (map (λ (x : Seat). (view x).journal) (seat ∷ seats)) (let e = length-map seats (λ (x : Seat). (view x).journal) in let f = sound.form.journals in omega arith)
          (λ t h. journals_are threads starts run has_joined w seats others those seat journal_0 t (let f = sound.form.journals in omega arith));
    }

-- the first of all seats, and the others
pub record IsParted (w : Words) (seat : Seat) (seats : List Seat) : Type 0 where
  pub own : BelongsTo w seat
  pub still : RestsAs 0 seat
  pub none_joined : (view seat).joined ≡ []
  pub others : AreResting w 1 seats
  pub all : 1 + length seats ≡ threads_of w

pub parted : (w : Words) (xs seats : List Seat) (seat : Seat) → xs ≡ seat ∷ seats → EachRests w xs → length xs ≡ threads_of w → IsParted w seat seats
parted w xs seats seat is each all = from (subst (EachRests w) is each) (ap (λ (l : List Seat). length l) (sym is) ∙ all)
  where
    from : EachRests w (seat ∷ seats) → length (seat ∷ seats) ≡ threads_of w → IsParted w seat seats
    from each all = let row = row_of (λ t s. IsSeatOf w s × RestsAs t s) (seat ∷ seats) each in record {
      own = (row.0.0.0, row.0.0.1);
      still = row.0.1;
      none_joined = row.0.0.3 row.0.1.0;
      others = row_so (λ t s. IsSeatOf w s × RestsAs t s) (IsRestingSeat w) 1 seats (λ t s h both. ((both.0.0, both.0.1), both.1)) row.1;
      all = one-add (length seats) ∙ all;
    }

-- while seats are made: those of the threads from this one on, in order
abbrev pub AreFresh : Words → ℕ → List Seat → Type 0
AreFresh words thread seats = AreInRow (λ t seat. BelongsTo words seat × IsFresh t seat) thread seats

each : (w : Words) (seat : Seat) (seats : List Seat) → BelongsTo w seat → IsFresh 0 seat → (view seat).seats_made ≡ w.threads → (view seat).joined ≡ [] → AreFresh w 1 seats → EachFresh w (seat ∷ seats)
each w seat seats own new seats_made joined others = each_of (λ t s. IsSeatOf w s × IsFresh t s) (seat ∷ seats) (
  ((own.0, own.1, (λ _. seats_made), λ _. joined), new),
  row_so (λ t s. BelongsTo w s × IsFresh t s) (λ t s. IsSeatOf w s × IsFresh t s) 1 seats
      (λ t s h both. let n : (view s).number ≡ t = both.1.0 in ((both.0.0, both.0.1, (λ z. absurd (omega arith)), λ z. absurd (omega arith)), both.1)) others,
)

pub each_fresh : (w : Words) (xs seats : List Seat) (seat : Seat) → xs ≡ seat ∷ seats → BelongsTo w seat → IsFresh 0 seat → (view seat).seats_made ≡ w.threads → (view seat).joined ≡ [] → AreFresh w 1 seats → EachFresh w xs
each_fresh w xs seats seat is own new seats_made joined others = subst (EachFresh w) (sym is) (each w seat seats own new seats_made joined others)
