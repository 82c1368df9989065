-- After a good front of version 2, the next field is refused for its own cause.
use Rattle.std.proofs.Common.{◌≡◌, ◌≢◌, ◌⊎◌, ℕ, zero, suc, ◌+◌, ◌-◌, ◌^◌, ◌<◌, ◌≤◌, ◌&&◌, Bool, true, false, not, eqb, leb, ltb, List, [], ◌∷◌, ◌++◌, length, Some, Result, Ok, Err, refl, sym, ap, subst, ◌∙◌, append_assoc, arith, inl, inr}
use Rattle.std.specs.Prelude.{sum_by}
use Rattle.std.specs.List.{list_all, flat_map}
use Rattle.std.proofs.lemmas.Bool.{leb-true, le-leb, lt-leb, lt-ltb, le-ltb, ne_eqb}
use Rattle.std.proofs.lemmas.List.{length-append}
use Rattle.std.proofs.lemmas.List.Sums.{sum_by-cons}
use Rattle.std.proofs.lemmas.List.Concat.{flat_map-cons}
use Rattle.octet_model.specs.declared.log.Gapped.{Gapped}
use Rattle.octet_model.specs.declared.log.ThreadLog.{ThreadLog}
use Rattle.octet_model.specs.Log.{is_mark}
use Rattle.octet_log.specs.declared.cause.LogCause.{LogCause}
use Rattle.octet_log.specs.declared.cause.LogCause.TheVariants.{CutShort, BadMark, TooManyAccesses, BadPiece, GapsOver, TooManyMarks}
use Rattle.octet_log.specs.Judging.{◌>>=◌}
use Rattle.octet_log.specs.v2.Short.{short_bytes}
use Rattle.octet_log.specs.v2.Pieces.{head_bytes, short_mark_bytes, Piece, piece_bytes, ArePieces, marks_of}
use Rattle.octet_log.specs.v2.Decoding.{short_mark_at, piece_at, pieces_at, accesses_at, tail_at, no_marks, second_at}
use Rattle.octet_log.specs.Loading.{loaded}
use Rattle.octet_log.specs.v2.Refusals.{HaveGoodMarks, marks_so_far, IsFront, front_bytes, IsInPiece, in_piece_bytes, BeginsNoMark, no_kind, long_gap, no_other, no_number, GapsFit, accesses_so_far, IsInTail, in_tail_bytes}
use Rattle.octet_log.proofs.Valid.{and_first, and_second, allowed}
use Rattle.octet_log.proofs.version2.Groups.{short_again}
use Rattle.octet_log.proofs.Each.{each_fails}
use Rattle.octet_log.proofs.version2.Marks.{GoodShort, GoodShorts, short_mark_again}
use Rattle.octet_log.proofs.version2.Pieces.{GoodPieces, all_added, all_added_is, marks_of_all, one_again, pieces_again, with_pieces, accesses_again}
use Rattle.octet_log.proofs.version2.Whole.{digest_again, few_pieces}

pub digest_cut : (threads : ℕ) (field : List ℕ) → 1 ≤ threads → threads ≤ 16 → length field < 32 → loaded (head_bytes threads field) ≡ Err (CutShort (length (head_bytes threads field)))
unfolding loaded second_at
digest_cut threads field low high short = rw (allowed threads low high, lt-ltb (length field) 32 short) refl

good_shorts : (threads thread : ℕ) (marks : List Gapped) → list_all (λ m. is_mark threads thread m.mark && leb m.gap 262144) marks ≡ true → GoodShorts threads thread marks
good_shorts threads thread [] all = tt
good_shorts threads thread (m ∷ marks) all =
    let own : (is_mark threads thread m.mark && leb m.gap 262144) ≡ true = and_first (is_mark threads thread m.mark && leb m.gap 262144) (list_all (λ m. is_mark threads thread m.mark && leb m.gap 262144) marks) all in (
      record { mark = and_first (is_mark threads thread m.mark) (leb m.gap 262144) own; gap = leb-true m.gap 262144 (and_second (is_mark threads thread m.mark) (leb m.gap 262144) own) },
      good_shorts threads thread marks (and_second (is_mark threads thread m.mark && leb m.gap 262144) (list_all (λ m. is_mark threads thread m.mark && leb m.gap 262144) marks) all),
    )

good_front : (threads before : ℕ) (pieces : List Piece) → ArePieces threads pieces → HaveGoodMarks threads pieces → before + marks_so_far pieces ≤ 4793490 → GoodPieces threads before pieces
good_front threads before [] are good few = tt
good_front threads before (piece ∷ pieces) are good few =
    let more : before + (length piece.marks + marks_so_far pieces) ≤ 4793490 = omega (arith, few, sum_by-cons (λ (p : Piece). length p.marks) piece pieces) in (
      record { thread_is = are.0.thread; some_mark = are.0.some_mark; few = omega (arith, more); good = good_shorts threads piece.thread piece.marks good.0 },
      good_front threads (before + length piece.marks) pieces are.1 good.1 (omega (arith, more)),
    )

so_far_is : (pieces : List Piece) → marks_so_far pieces ≡ marks_of_all pieces
so_far_is [] = refl
so_far_is (piece ∷ pieces) = sum_by-cons (λ (p : Piece). length p.marks) piece pieces ∙ ap (λ (n : ℕ). length piece.marks + n) (so_far_is pieces)

pieces_front : (pieces : List Piece) (most total threads before : ℕ) (logs : List ThreadLog) (rest : List ℕ) → threads ≤ 16 → GoodPieces threads before pieces
    → pieces_at (length pieces + most) total threads before logs (flat_map piece_bytes pieces ++ rest) ≡ pieces_at most total threads (before + marks_of_all pieces) (all_added pieces logs) rest
pieces_front [] most total threads before logs rest few good =
    let a : 0 + most ≡ most = omega arith in
    let b : before ≡ before + 0 = omega arith in
    ap (λ (n : ℕ). pieces_at n total threads before logs rest) a ∙ ap (λ (n : ℕ). pieces_at most total threads n logs rest) b
pieces_front (piece ∷ pieces) most total threads before logs rest few good =
    let after = flat_map piece_bytes pieces ++ rest in
    let a : suc (length pieces) + most ≡ suc (length pieces + most) = omega arith in
    let b : before + length piece.marks + marks_of_all pieces ≡ before + (length piece.marks + marks_of_all pieces) = omega arith in
    let regrouped : flat_map piece_bytes (piece ∷ pieces) ++ rest ≡ piece_bytes piece ++ after = ap (λ (l : List ℕ). l ++ rest) (flat_map-cons piece_bytes piece pieces) ∙ append_assoc (piece_bytes piece) (flat_map piece_bytes pieces) rest in
    ap (λ (n : ℕ). pieces_at n total threads before logs (flat_map piece_bytes (piece ∷ pieces) ++ rest)) a
    ∙ ap (pieces_at (suc (length pieces + most)) total threads before logs) regrouped
    ∙ one_again (length pieces + most) total threads before logs piece.thread piece.marks after few good.0
    ∙ pieces_front pieces most total threads (before + length piece.marks) _ rest few good.1
    ∙ ap (λ (n : ℕ). pieces_at most total threads n (all_added (piece ∷ pieces) logs) rest) b

second_fails : (total threads : ℕ) (digest after : List ℕ) (cause : LogCause) → (leb 1 threads && leb threads 16) ≡ true → length digest ≡ 32 → pieces_at (length after) total threads 0 (no_marks threads) after ≡ Err cause → second_at total (threads ∷ (digest ++ after)) ≡ Err cause
unfolding second_at
second_fails total threads digest after cause allowed whole fails = rw (allowed, digest_again total digest after whole, fails) refl

front_judged : (threads : ℕ) (digest : List ℕ) (after : List ℕ) (cause : LogCause) → second_at (length (head_bytes threads digest ++ after)) (threads ∷ (digest ++ after)) ≡ Err cause → loaded (head_bytes threads digest ++ after) ≡ Err cause
unfolding loaded
front_judged threads digest after cause fails = ap (λ (r : Result (List ThreadLog × List ℕ) LogCause). r >>= λ read. Ok (record { logs = read.0; digest = Some read.1 })) fails

-- what the next field fails with is what all fails with
front_fails : (threads : ℕ) (digest : List ℕ) (pieces : List Piece) (rest : List ℕ) (cause : LogCause) → IsFront threads digest pieces → 1 ≤ length rest
    → ((most : ℕ) (logs : List ThreadLog) → pieces_at (suc most) (length (front_bytes threads digest pieces ++ rest)) threads (marks_so_far pieces) logs rest ≡ Err cause) → loaded (front_bytes threads digest pieces ++ rest) ≡ Err cause
front_fails threads digest pieces rest cause front some_rest fails =
    let after = flat_map piece_bytes pieces ++ rest in
    let total = length (front_bytes threads digest pieces ++ rest) in
    let regrouped : front_bytes threads digest pieces ++ rest ≡ head_bytes threads digest ++ after = append_assoc (head_bytes threads digest) (flat_map piece_bytes pieces) rest in
    let most = length after - length pieces - 1 in
    let count : length after ≡ length pieces + suc most = omega (arith, length-append (flat_map piece_bytes pieces) rest, few_pieces pieces, some_rest) in
    let good = good_front threads 0 pieces front.are front.good (omega (arith, front.few)) in
    let so_far : 0 + marks_of_all pieces ≡ marks_so_far pieces = omega (arith, so_far_is pieces) in
    let here : pieces_at (length after) total threads 0 (no_marks threads) after ≡ Err cause =
    ap (λ (n : ℕ). pieces_at n total threads 0 (no_marks threads) after) count
    ∙ pieces_front pieces (suc most) total threads 0 (no_marks threads) rest front.few_threads good
    ∙ ap (λ (n : ℕ). pieces_at (suc most) total threads n (all_added pieces (no_marks threads)) rest) so_far
    ∙ fails most (all_added pieces (no_marks threads)) in
    let there = second_fails total threads digest after cause (allowed threads front.some_thread front.few_threads) front.whole here in
    ap loaded regrouped ∙ front_judged threads digest after cause (subst (λ (n : ℕ). second_at n (threads ∷ (digest ++ after)) ≡ Err cause) (ap (λ (l : List ℕ). length l) regrouped) there)

pub place : (front rest : List ℕ) → length (front ++ rest) - length rest ≡ length front
place front rest = omega (arith, length-append front rest)

step_no_thread : (most total threads before thread : ℕ) (logs : List ThreadLog) (rest : List ℕ) → threads ≤ thread → thread ≢ 255 → pieces_at (suc most) total threads before logs (thread ∷ rest) ≡ Err (BadPiece (total - length (thread ∷ rest)))
unfolding pieces_at piece_at
step_no_thread most total threads before thread logs rest past more = rw (ne_eqb thread 255 more, le-ltb thread threads past) refl

pub no_thread_is_bad : (threads : ℕ) (digest : List ℕ) (pieces : List Piece) (thread : ℕ) (rest : List ℕ) → IsFront threads digest pieces → threads ≤ thread → thread ≢ 255 → loaded (front_bytes threads digest pieces ++ thread ∷ rest) ≡ Err (BadPiece (length (front_bytes threads digest pieces)))
no_thread_is_bad threads digest pieces thread rest front past more =
    let bytes = front_bytes threads digest pieces in
    front_fails threads digest pieces (thread ∷ rest) (BadPiece (length bytes)) front (omega arith)
    (λ most logs. step_no_thread most (length (bytes ++ thread ∷ rest)) threads (marks_so_far pieces) thread logs rest past more ∙ ap (λ (n : ℕ). Err (BadPiece n)) (place bytes (thread ∷ rest)))

not_end : (thread threads : ℕ) → thread < threads → threads ≤ 16 → eqb thread 255 ≡ false
not_end thread threads small few = ne_eqb thread 255 (λ e. absurd (omega (arith, e, small, few)))

step_no_mark : (most total threads before thread : ℕ) (logs : List ThreadLog) (rest : List ℕ) → thread < threads → threads ≤ 16
    → pieces_at (suc most) total threads before logs (thread ∷ (short_bytes 0 ++ rest)) ≡ Err (BadPiece (total - length (thread ∷ (short_bytes 0 ++ rest))))
unfolding pieces_at piece_at
step_no_mark most total threads before thread logs rest small few = rw (not_end thread threads small few, lt-ltb thread threads small, short_again total 0 rest (omega arith)) refl

pub no_mark_is_bad_piece : (threads : ℕ) (digest : List ℕ) (pieces : List Piece) (thread : ℕ) (rest : List ℕ) → IsFront threads digest pieces → thread < threads → loaded (front_bytes threads digest pieces ++ thread ∷ (short_bytes 0 ++ rest)) ≡ Err (BadPiece (length (front_bytes threads digest pieces)))
no_mark_is_bad_piece threads digest pieces thread rest front small =
    let bytes = front_bytes threads digest pieces in
    let after = thread ∷ (short_bytes 0 ++ rest) in
    front_fails threads digest pieces after (BadPiece (length bytes)) front (omega arith)
    (λ most logs. step_no_mark most (length (bytes ++ after)) threads (marks_so_far pieces) thread logs rest small front.few_threads ∙ ap (λ (n : ℕ). Err (BadPiece n)) (place bytes after))

step_too_many : (most total threads before thread count : ℕ) (logs : List ThreadLog) (rest : List ℕ) → thread < threads → threads ≤ 16 → 1 ≤ count → count < 2 ^ 64 → 4793490 < before + count
    → pieces_at (suc most) total threads before logs (thread ∷ (short_bytes count ++ rest)) ≡ Err TooManyMarks
unfolding pieces_at piece_at
step_too_many most total threads before thread count logs rest small few some_mark fits many =
    rw (not_end thread threads small few, lt-ltb thread threads small, short_again total count rest fits, le-leb 1 count some_mark, lt-leb (before + count) 4793490 many) refl

pub too_many_marks : (threads : ℕ) (digest : List ℕ) (pieces : List Piece) (thread count : ℕ) (rest : List ℕ) → IsFront threads digest pieces → thread < threads → 1 ≤ count → count < 2 ^ 64 → 4793490 < marks_so_far pieces + count
    → loaded (front_bytes threads digest pieces ++ thread ∷ (short_bytes count ++ rest)) ≡ Err TooManyMarks
too_many_marks threads digest pieces thread count rest front small some_mark fits many =
    let after = thread ∷ (short_bytes count ++ rest) in
    front_fails threads digest pieces after TooManyMarks front (omega arith)
    (λ most logs. step_too_many most (length (front_bytes threads digest pieces ++ after)) threads (marks_so_far pieces) thread count logs rest small front.few_threads some_mark fits many)

-- what begins no mark is a bad mark
not_known : (kind : ℕ) → (kind ≡ 0) ⊎ (3 < kind) → (leb 1 kind && leb kind 3) ≡ false
not_known kind (inl none) = rw none refl
not_known kind (inr past) = rw (lt-leb kind 3 past) (and_false (leb 1 kind))
  where
    and_false : (b : Bool) → (b && false) ≡ false
    and_false true = refl
    and_false false = refl

known : (kind : ℕ) → 1 ≤ kind → kind ≤ 3 → (leb 1 kind && leb kind 3) ≡ true
known kind low high = rw (le-leb 1 kind low, le-leb kind 3 high) refl

not_other : (threads thread from : ℕ) → (threads ≤ from) ⊎ (from ≡ thread) → (ltb from threads && not (eqb from thread)) ≡ false
not_other threads thread from (inl past) = rw (le-ltb from threads past) refl
not_other threads thread from (inr own) = rw (own, eqb_same thread) (and_false (ltb thread threads))
  where
    eqb_same : (n : ℕ) → eqb n n ≡ true
    eqb_same n = grind arith

    and_false : (b : Bool) → (b && false) ≡ false
    and_false true = refl
    and_false false = refl

bad_numbered : (total threads thread kind gap : ℕ) (rest : List ℕ) → (kind ≡ 2) ⊎ (kind ≡ 3) → gap ≤ 262144
    → short_mark_at total threads thread (kind ∷ (short_bytes gap ++ (short_bytes 0 ++ rest))) ≡ Err (BadMark (total - length (kind ∷ (short_bytes gap ++ (short_bytes 0 ++ rest)))))
unfolding short_mark_at
bad_numbered total threads thread kind gap rest (inl two) small =
    subst (λ (k : ℕ). short_mark_at total threads thread (k ∷ (short_bytes gap ++ (short_bytes 0 ++ rest))) ≡ Err (BadMark (total - length (k ∷ (short_bytes gap ++ (short_bytes 0 ++ rest)))))) (sym two)
    (rw (short_again total gap (short_bytes 0 ++ rest) (omega (arith, small)), le-leb gap 262144 small, short_again total 0 rest (omega arith)) refl)
bad_numbered total threads thread kind gap rest (inr three) small =
    subst (λ (k : ℕ). short_mark_at total threads thread (k ∷ (short_bytes gap ++ (short_bytes 0 ++ rest))) ≡ Err (BadMark (total - length (k ∷ (short_bytes gap ++ (short_bytes 0 ++ rest)))))) (sym three)
    (rw (short_again total gap (short_bytes 0 ++ rest) (omega (arith, small)), le-leb gap 262144 small, short_again total 0 rest (omega arith)) refl)

no_mark_at : (total threads thread : ℕ) (bytes : List ℕ) → BeginsNoMark threads thread bytes → short_mark_at total threads thread bytes ≡ Err (BadMark (total - length bytes))
unfolding short_mark_at
no_mark_at total threads thread _ (no_kind kind rest other) = rw (not_known kind other) refl
no_mark_at total threads thread _ (long_gap kind gap rest low high large fits) = rw (known kind low high, short_again total gap rest fits, lt-leb gap 262144 large) refl
no_mark_at total threads thread _ (no_other gap from rest small none) = rw (short_again total gap (from ∷ rest) (omega (arith, small)), le-leb gap 262144 small, not_other threads thread from none) refl
no_mark_at total threads thread _ (no_number kind gap rest is small) = bad_numbered total threads thread kind gap rest is small

step_mark : (most total threads before thread count : ℕ) (logs : List ThreadLog) (marks : List Gapped) (rest : List ℕ) (cause : LogCause) → thread < threads → threads ≤ 16 → before + count ≤ 4793490 → length marks < count → GoodShorts threads thread marks
    → short_mark_at total threads thread rest ≡ Err cause → pieces_at (suc most) total threads before logs (thread ∷ (short_bytes count ++ (flat_map short_mark_bytes marks ++ rest))) ≡ Err cause
unfolding pieces_at piece_at
step_mark most total threads before thread count logs marks rest cause small few fits more good fails =
    let all = each_fails {S = Unit {0}} (λ _. short_mark_at total threads thread) (λ state _. state) short_mark_bytes (λ _. GoodShort threads thread) (λ _ m r g. short_mark_again total threads thread m r g) count tt marks rest cause more good (still marks fails) in
    rw (not_end thread threads small few, lt-ltb thread threads small, short_again total count (flat_map short_mark_bytes marks ++ rest) (omega (arith, fits)), le-leb 1 count (omega (arith, more)), le-leb (before + count) 4793490 fits, all) refl
  where
    still : (marks : List Gapped) → short_mark_at total threads thread rest ≡ Err cause → short_mark_at total threads thread rest ≡ Err cause
    still marks e = e

pub no_mark_is_bad : (threads : ℕ) (digest : List ℕ) (pieces : List Piece) (thread count : ℕ) (marks : List Gapped) (rest : List ℕ) → IsInPiece threads digest pieces thread count marks → BeginsNoMark threads thread rest
    → loaded (in_piece_bytes threads digest pieces thread count marks ++ rest) ≡ Err (BadMark (length (in_piece_bytes threads digest pieces thread count marks)))
no_mark_is_bad threads digest pieces thread count marks rest within none =
    let front = front_bytes threads digest pieces in
    let spelled = flat_map short_mark_bytes marks in
    let after = thread ∷ (short_bytes count ++ (spelled ++ rest)) in
    let whole = in_piece_bytes threads digest pieces thread count marks in
    let regrouped : whole ++ rest ≡ front ++ after = append_assoc front (thread ∷ (short_bytes count ++ spelled)) rest ∙ ap (λ (l : List ℕ). front ++ thread ∷ l) (append_assoc (short_bytes count) spelled rest) in
    let total : length (whole ++ rest) ≡ length (front ++ after) = ap (λ (l : List ℕ). length l) regrouped in
    let at : length (front ++ after) - length rest ≡ length whole = omega (arith, total, length-append whole rest) in
    ap loaded regrouped
    ∙ front_fails threads digest pieces after (BadMark (length whole)) within.front (omega arith)
    (λ most logs. step_mark most (length (front ++ after)) threads (marks_so_far pieces) thread count logs marks rest (BadMark (length whole)) within.thread_is within.front.few_threads within.few within.more (good_shorts threads thread marks within.good)
    (no_mark_at (length (front ++ after)) threads thread rest none ∙ ap (λ (n : ℕ). Err (BadMark n)) at))

-- the tail behind a good front
second_tail_fails : (total threads : ℕ) (digest : List ℕ) (pieces : List Piece) (after : List ℕ) (cause : LogCause) → (leb 1 threads && leb threads 16) ≡ true → threads ≤ 16 → length digest ≡ 32 → GoodPieces threads 0 pieces
    → tail_at total 0 0 (with_pieces 0 pieces (no_marks threads)) after ≡ Err cause → second_at total (threads ∷ (digest ++ (flat_map piece_bytes pieces ++ 255 ∷ after))) ≡ Err cause
unfolding second_at
second_tail_fails total threads digest pieces after cause allowed few whole good fails =
    let behind = flat_map piece_bytes pieces ++ 255 ∷ after in
    let most : length pieces < length behind = omega (arith, few_pieces pieces, length-append (flat_map piece_bytes pieces) (255 ∷ after)) in
    let there : tail_at total 0 0 (all_added pieces (no_marks threads)) after ≡ Err cause = ap (λ (l : List ThreadLog). tail_at total 0 0 l after) (all_added_is pieces (no_marks threads)) ∙ fails in
    rw (allowed, digest_again total digest behind whole, pieces_again pieces (length behind) total threads 0 (no_marks threads) after most few good, there) refl

-- the log of a thread before its accesses are read
abbrev unread : ℕ → List Piece → ThreadLog
unread thread pieces = record { accesses = 0; marks = marks_of thread pieces }

tail_front : (numbers : List ℕ) (total first before left : ℕ) (pieces : List Piece) (rest : List ℕ) (cause : LogCause) → GapsFit first pieces numbers → before + accesses_so_far numbers ≤ 262144 → length numbers < left
    → ((thread sum_so_far : ℕ) → thread ≡ first + length numbers → sum_so_far ≡ before + accesses_so_far numbers → accesses_at total thread sum_so_far (unread thread pieces) rest ≡ Err cause)
    → tail_at total first before (with_pieces first pieces (no_marks left)) (flat_map short_bytes numbers ++ rest) ≡ Err cause
unfolding tail_at
tail_front numbers total first before zero pieces rest cause gaps few more fails = absurd (omega (arith, more))
tail_front [] total first before (suc left) pieces rest cause gaps few more fails = rw (fails first before (omega arith) (omega arith)) refl
tail_front (a ∷ numbers) total first before (suc left) pieces rest cause gaps few more fails =
    let after = flat_map short_bytes numbers ++ rest in
    let all : before + (a + accesses_so_far numbers) ≤ 262144 = omega (arith, few, sum_by-cons (λ (n : ℕ). n) a numbers) in
    let regrouped : flat_map short_bytes (a ∷ numbers) ++ rest ≡ short_bytes a ++ after = ap (λ (l : List ℕ). l ++ rest) (flat_map-cons short_bytes a numbers) ∙ append_assoc (short_bytes a) (flat_map short_bytes numbers) rest in
    let own = accesses_again total first before (unread first pieces) (record { accesses = a; marks = marks_of first pieces }) after refl (omega (arith, all)) gaps.0 in
    let others = tail_front numbers total (suc first) (before + a) left pieces rest cause gaps.1 (omega (arith, all)) (omega (arith, more))
    (λ thread so_far t s. fails thread so_far (omega (arith, t)) (omega (arith, s, sum_by-cons (λ (n : ℕ). n) a numbers))) in
    ap (tail_at total first before (with_pieces first pieces (no_marks (suc left)))) regrouped ∙ rw (own, others) refl

in_tail_fails : (threads : ℕ) (digest : List ℕ) (pieces : List Piece) (accesses rest : List ℕ) (cause : LogCause) → IsInTail threads digest pieces accesses
    → ((thread so_far : ℕ) → thread ≡ 0 + length accesses → so_far ≡ 0 + accesses_so_far accesses → accesses_at (length (in_tail_bytes threads digest pieces accesses ++ rest)) thread so_far (unread thread pieces) rest ≡ Err cause)
    → loaded (in_tail_bytes threads digest pieces accesses ++ rest) ≡ Err cause
in_tail_fails threads digest pieces accesses rest cause within fails =
    let spelled = flat_map short_bytes accesses in
    let after = flat_map piece_bytes pieces ++ 255 ∷ (spelled ++ rest) in
    let whole = in_tail_bytes threads digest pieces accesses in
    let regrouped : whole ++ rest ≡ head_bytes threads digest ++ after =
    append_assoc (front_bytes threads digest pieces) (255 ∷ spelled) rest ∙ append_assoc (head_bytes threads digest) (flat_map piece_bytes pieces) (255 ∷ (spelled ++ rest)) in
    let good = good_front threads 0 pieces within.front.are within.front.good (omega (arith, within.front.few)) in
    let tail = tail_front accesses (length (whole ++ rest)) 0 0 threads pieces rest cause within.gaps (omega (arith, within.few)) within.more fails in
    let there = second_tail_fails (length (whole ++ rest)) threads digest pieces (spelled ++ rest) cause (allowed threads within.front.some_thread within.front.few_threads) within.front.few_threads within.front.whole good tail in
    ap loaded regrouped ∙ front_judged threads digest after cause (subst (λ (n : ℕ). second_at n (threads ∷ (digest ++ after)) ≡ Err cause) (ap (λ (l : List ℕ). length l) regrouped) there)

step_sum : (total thread before next : ℕ) (log : ThreadLog) (rest : List ℕ) → next < 2 ^ 64 → 262144 < before + next → accesses_at total thread before log (short_bytes next ++ rest) ≡ Err TooManyAccesses
unfolding accesses_at
step_sum total thread before next log rest fits many = rw (short_again total next rest fits, lt-leb (before + next) 262144 many) refl

pub too_many_in_tail : (threads : ℕ) (digest : List ℕ) (pieces : List Piece) (accesses : List ℕ) (next : ℕ) (rest : List ℕ) → IsInTail threads digest pieces accesses → next < 2 ^ 64 → 262144 < accesses_so_far accesses + next
    → loaded (in_tail_bytes threads digest pieces accesses ++ (short_bytes next ++ rest)) ≡ Err TooManyAccesses
too_many_in_tail threads digest pieces accesses next rest within fits many =
    in_tail_fails threads digest pieces accesses (short_bytes next ++ rest) TooManyAccesses within
    (λ thread so_far t s. step_sum _ thread so_far next (unread thread pieces) rest fits (omega (arith, s, many)))

step_gaps : (total thread before next : ℕ) (log : ThreadLog) (rest : List ℕ) → before + next ≤ 262144 → next < sum_by (λ m. m.gap) log.marks → accesses_at total thread before log (short_bytes next ++ rest) ≡ Err (GapsOver thread)
unfolding accesses_at
step_gaps total thread before next log rest few over = rw (short_again total next rest (omega (arith, few)), le-leb (before + next) 262144 few, lt-leb (sum_by (λ m. m.gap) log.marks) next over) refl

pub gaps_pass : (threads : ℕ) (digest : List ℕ) (pieces : List Piece) (accesses : List ℕ) (next : ℕ) (rest : List ℕ) → IsInTail threads digest pieces accesses → accesses_so_far accesses + next ≤ 262144 → next < sum_by (λ m. m.gap) (marks_of (length accesses) pieces)
    → loaded (in_tail_bytes threads digest pieces accesses ++ (short_bytes next ++ rest)) ≡ Err (GapsOver (length accesses))
gaps_pass threads digest pieces accesses next rest within few over =
    in_tail_fails threads digest pieces accesses (short_bytes next ++ rest) (GapsOver (length accesses)) within
    (λ thread so_far t s.
    let same : thread ≡ length accesses = omega (arith, t) in
    let more : next < sum_by (λ m. m.gap) (marks_of thread pieces) = subst (λ (n : ℕ). next < sum_by (λ m. m.gap) (marks_of n pieces)) (sym same) over in
    step_gaps _ thread so_far next (unread thread pieces) rest (omega (arith, s, few)) more ∙ ap (λ (n : ℕ). Err (GapsOver n)) same)
