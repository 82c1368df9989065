-- Reading pieces and the tail, as loops do.
use Rattle.std.proofs.Common.{◌≡◌, ◌≢◌, ℕ, zero, suc, ◌+◌, ◌-◌, ◌<◌, ◌≤◌, true, false, cond, eqb, ltb, List, [], ◌∷◌, ◌++◌, length, take, drop, get_or, set, Result, Ok, Err, refl, sym, ap, ◌∙◌, arith, add-one, add-zero}
use Rattle.std.proofs.lemmas.Bool.{ne_eqb, le-ltb}
use Rattle.std.proofs.lemmas.List.{append-nil, length-append, take_all, drop_all, take_more_set, drop-set-lt}
use Rattle.std.proofs.Math.Seq.{drop-cons}
use Rattle.octet_model.specs.declared.log.Gapped.{Gapped}
use Rattle.octet_model.specs.declared.log.ThreadLog.{ThreadLog}
use Rattle.octet_log.specs.declared.cause.LogCause.{LogCause}
use Rattle.octet_log.specs.declared.cause.LogCause.TheVariants.{BadPiece, CutShort}
use Rattle.octet_log.specs.declared.cause.LogFault.{LogFault}
use Rattle.octet_log.specs.declared.cause.LogFault.TheVariants as faults
use Rattle.octet_log.specs.Judging.{Fails, byte_at, with_front}
use Rattle.octet_log.specs.v2.Decoding.{piece_at, added, pieces_at, accesses_at, tail_at}
use Rattle.octet_log.proofs.Fields.{ok_is}
use Rattle.octet_log.proofs.Loops.{regroup}

front_fails : {A : Type 0} (old : List A) (read : Result (List A × List ℕ) LogCause) (cause : LogCause) → with_front old read ≡ Err cause → read ≡ Err cause
front_fails old (Ok x) cause e = absurd cc
front_fails old (Err d) cause e = cc

pub front_gives : {A : Type 0} (old new : List A) (rest : List ℕ) (read : Result (List A × List ℕ) LogCause) → with_front old read ≡ Ok (new, rest) → (xs : List A) × (read ≡ Ok (xs, rest)) × (new ≡ old ++ xs)
front_gives old new rest (Ok x) e =
    let same : (old ++ x.0, x.1) ≡ (new, rest) = ok_is (old ++ x.0, x.1) (new, rest) e in
    (x.0, (λ i. Ok (x.0, ap (λ (p : List _ × List ℕ). p.1) same i)), sym (ap (λ (p : List _ × List ℕ). p.0) same))
front_gives old new rest (Err d) e = absurd cc

-- marks of an earlier thread change nothing
added_before : (first thread : ℕ) (more : List Gapped) (logs : List ThreadLog) → thread < first → added first thread more logs ≡ logs
unfolding added
added_before first thread more [] before = refl
added_before first thread more (log ∷ logs) before =
    let other : eqb first thread ≡ false = ne_eqb first thread (λ e. absurd (omega (arith, e, before))) in
    let same : log.marks ++ cond (eqb first thread) more [] ≡ log.marks = rw other (append-nil log.marks) in
    λ i. record { accesses = log.accesses; marks = same i } ∷ added_before (suc first) thread more logs (omega (arith, before)) i

-- the log at a place, with more marks behind its own
pub added_is : (first place : ℕ) (more : List Gapped) (logs : List ThreadLog) (x : ThreadLog) → place < length logs → x ≡ get_or logs place x
    → set logs place (record { accesses = x.accesses; marks = x.marks ++ more }) ≡ added first (first + place) more logs
unfolding added
added_is first place more [] x within is = absurd (omega (arith, within))
added_is first zero more (log ∷ logs) x within is =
    let here : first + 0 ≡ first = add-zero first in
    let own : cond (eqb first (first + 0)) more [] ≡ more = rw here (rw (eqb_same first) refl) in
    λ i. record { accesses = (is i).accesses; marks = (is i).marks ++ sym own i } ∷ sym (added_before (suc first) (first + 0) more logs (omega (arith, here))) i
  where
    eqb_same : (n : ℕ) → eqb n n ≡ true
    eqb_same n = grind arith
added_is first (suc place) more (log ∷ logs) x within is =
    let other : eqb first (first + suc place) ≡ false = ne_eqb first (first + suc place) (λ e. absurd (omega (arith, e))) in
    let same : log.marks ++ cond (eqb first (first + suc place)) more [] ≡ log.marks = rw other (append-nil log.marks) in
    let there : suc first + place ≡ first + suc place = omega arith in
    let rest : set logs place (record { accesses = x.accesses; marks = x.marks ++ more }) ≡ added (suc first) (first + suc place) more logs = added_is (suc first) place more logs x (omega (arith, within)) is ∙ ap (λ (t : ℕ). added (suc first) t more logs) there in
    λ i. record { accesses = log.accesses; marks = sym same i } ∷ rest i

module _ (total threads n i before : ℕ) (logs : List ThreadLog) (bytes : List ℕ) (all : Result (List ThreadLog × List ℕ) LogCause) where
  pub thread_fails : (fault : LogFault) → i < n → Fails fault (byte_at total bytes) → pieces_at (n - i) total threads before logs bytes ≡ all → Fails fault all
  unfolding pieces_at
  thread_fails faults.OutOfMemory lt h so_far = tt
  thread_fails (faults.Refused cause) lt h so_far =
      let k : n - i ≡ suc (n - (i + 1)) = omega arith in
      let one : pieces_at (n - i) total threads before logs bytes ≡ Err cause = rw (k, h) refl in
      sym so_far ∙ one

  pub pieces_end : (thread : ℕ) (after : List ℕ) → i < n → byte_at total bytes ≡ Ok (thread, after) → thread ≡ 255 → pieces_at (n - i) total threads before logs bytes ≡ all → all ≡ Ok (logs, after)
  unfolding pieces_at
  pieces_end thread after lt h last so_far =
      let k : n - i ≡ suc (n - (i + 1)) = omega arith in
      let ends : eqb thread 255 ≡ true = rw last refl in
      let one : pieces_at (n - i) total threads before logs bytes ≡ Ok (logs, after) = rw (k, h, ends) refl in
      sym so_far ∙ one

  pub no_thread : (thread : ℕ) (after : List ℕ) → i < n → byte_at total bytes ≡ Ok (thread, after) → thread ≢ 255 → threads ≤ thread → pieces_at (n - i) total threads before logs bytes ≡ all → all ≡ Err (BadPiece (total - length bytes))
  unfolding pieces_at piece_at
  no_thread thread after lt h more past so_far =
      let k : n - i ≡ suc (n - (i + 1)) = omega arith in
      let goes : eqb thread 255 ≡ false = ne_eqb thread 255 more in
      let none : ltb thread threads ≡ false = le-ltb thread threads past in
      let one : pieces_at (n - i) total threads before logs bytes ≡ Err (BadPiece (total - length bytes)) = rw (k, h, goes, none) refl in
      sym so_far ∙ one

  pub piece_fails : (fault : LogFault) (thread : ℕ) (after : List ℕ) (old : List Gapped) → i < n → byte_at total bytes ≡ Ok (thread, after) → thread ≢ 255
      → Fails fault (with_front old (piece_at total threads (total - length bytes) thread before after)) → pieces_at (n - i) total threads before logs bytes ≡ all → Fails fault all
  unfolding pieces_at
  piece_fails faults.OutOfMemory thread after old lt h more fails so_far = tt
  piece_fails (faults.Refused cause) thread after old lt h more fails so_far =
      let k : n - i ≡ suc (n - (i + 1)) = omega arith in
      let goes : eqb thread 255 ≡ false = ne_eqb thread 255 more in
      let failed : piece_at total threads (total - length bytes) thread before after ≡ Err cause = front_fails old _ cause fails in
      let one : pieces_at (n - i) total threads before logs bytes ≡ Err cause = rw (k, h, goes, failed) refl in
      sym so_far ∙ one

  one_piece : (thread : ℕ) (after rest : List ℕ) (marks : List Gapped) → i < n → byte_at total bytes ≡ Ok (thread, after) → thread ≢ 255 → piece_at total threads (total - length bytes) thread before after ≡ Ok (marks, rest)
      → pieces_at (n - i) total threads before logs bytes ≡ pieces_at (n - (i + 1)) total threads (before + length marks) (added 0 thread marks logs) rest
  unfolding pieces_at
  one_piece thread after rest marks lt h more there =
      let k : n - i ≡ suc (n - (i + 1)) = omega arith in
      let goes : eqb thread 255 ≡ false = ne_eqb thread 255 more in
      rw (k, h, goes, there) refl

  pub piece_read : (thread count : ℕ) (after rest : List ℕ) (x : ThreadLog) (new : List Gapped) → i < n → byte_at total bytes ≡ Ok (thread, after) → thread ≢ 255 → thread < length logs → x ≡ get_or logs thread x
      → with_front x.marks (piece_at total threads (total - length bytes) thread before after) ≡ Ok (new, rest) → length new ≡ length x.marks + count
      → pieces_at (n - i) total threads before logs bytes ≡ all → pieces_at (n - (i + 1)) total threads (before + count) (set logs thread (record { accesses = x.accesses; marks = new })) rest ≡ all
  piece_read thread count after rest x new lt h more within is read counted so_far =
      let marks = front_gives x.marks new rest (piece_at total threads (total - length bytes) thread before after) read in
      let there : piece_at total threads (total - length bytes) thread before after ≡ Ok (marks.0, rest) = marks.1 in
      let many : length marks.0 ≡ count = omega (arith, counted, length-append x.marks marks.0, ap (λ (l : List Gapped). length l) marks.2) in
      let here : 0 + thread ≡ thread = omega arith in
      let put : set logs thread (record { accesses = x.accesses; marks = new }) ≡ added 0 thread marks.0 logs =
      ap (λ (m : List Gapped). set logs thread (record { accesses = x.accesses; marks = m })) marks.2 ∙ added_is 0 thread marks.0 logs x within is ∙ ap (λ (t : ℕ). added 0 t marks.0 logs) here in
      let one = one_piece thread after rest marks.0 lt h more there in
      ap (λ (l : List ThreadLog). pieces_at (n - (i + 1)) total threads (before + count) l rest) put
      ∙ ap (λ (m : ℕ). pieces_at (n - (i + 1)) total threads (before + m) (added 0 thread marks.0 logs) rest) (sym many) ∙ sym one ∙ so_far

  pub pieces_cut : n ≤ i → pieces_at (n - i) total threads before logs bytes ≡ all → all ≡ Err (CutShort total)
  unfolding pieces_at
  pieces_cut le so_far =
      let k : n - i ≡ 0 = omega arith in
      let one : pieces_at (n - i) total threads before logs bytes ≡ Err (CutShort total) = rw k refl in
      sym so_far ∙ one

module _ (total i before : ℕ) (logs : List ThreadLog) (bytes : List ℕ) (all : Result (List ThreadLog × List ℕ) LogCause) where
  pub tail_fails : (fault : LogFault) (x : ThreadLog) → i < length logs → x ≡ get_or logs i x → Fails fault (accesses_at total i before x bytes) → with_front (take i logs) (tail_at total i before (drop i logs) bytes) ≡ all → Fails fault all
  unfolding tail_at
  tail_fails faults.OutOfMemory x lt is fails so_far = tt
  tail_fails (faults.Refused cause) x lt is fails so_far =
      let next : drop i logs ≡ x ∷ drop (suc i) logs = drop-cons logs i x lt ∙ ap (λ (y : ThreadLog). y ∷ drop (suc i) logs) (sym is) in
      let one : with_front (take i logs) (tail_at total i before (drop i logs) bytes) ≡ Err cause = rw (next, fails) refl in
      sym so_far ∙ one

  pub tail_goes : (x y : ThreadLog) (after : List ℕ) → i < length logs → x ≡ get_or logs i x → accesses_at total i before x bytes ≡ Ok (y, after) → with_front (take i logs) (tail_at total i before (drop i logs) bytes) ≡ all
      → with_front (take (i + 1) (set logs i y)) (tail_at total (i + 1) (before + y.accesses) (drop (i + 1) (set logs i y)) after) ≡ all
  unfolding tail_at
  tail_goes x y after lt is read so_far =
      let next : drop i logs ≡ x ∷ drop (suc i) logs = drop-cons logs i x lt ∙ ap (λ (z : ThreadLog). z ∷ drop (suc i) logs) (sym is) in
      let behind : drop (i + 1) (set logs i y) ≡ drop (suc i) logs = drop-set-lt (i + 1) logs i y (omega arith) ∙ ap (λ (k : ℕ). drop k logs) (add-one i) in
      let one : with_front (take i logs) (tail_at total i before (drop i logs) bytes) ≡ with_front (take i logs ++ y ∷ []) (tail_at total (suc i) (before + y.accesses) (drop (suc i) logs) after) =
      rw (next, read) (regroup (take i logs) y (tail_at total (suc i) (before + y.accesses) (drop (suc i) logs) after)) in
      ap (λ (front : List ThreadLog). with_front front (tail_at total (i + 1) (before + y.accesses) (drop (i + 1) (set logs i y)) after)) (take_more_set logs i y lt)
      ∙ ap (λ (l : List ThreadLog). with_front (take i logs ++ y ∷ []) (tail_at total (i + 1) (before + y.accesses) l after)) behind
      ∙ ap (λ (k : ℕ). with_front (take i logs ++ y ∷ []) (tail_at total k (before + y.accesses) (drop (suc i) logs) after)) (add-one i)
      ∙ sym one ∙ so_far

  pub tail_done : length logs ≤ i → with_front (take i logs) (tail_at total i before (drop i logs) bytes) ≡ all → all ≡ Ok (logs, bytes)
  unfolding tail_at
  tail_done le so_far =
      let none : drop i logs ≡ [] = drop_all i logs le in
      let one : with_front (take i logs) (tail_at total i before (drop i logs) bytes) ≡ Ok (take i logs ++ [], bytes) = rw none refl in
      sym so_far ∙ one ∙ ap (λ (l : List ThreadLog). Ok (l, bytes)) (append-nil (take i logs) ∙ take_all i logs le)
