-- Bytes of version 2 that are judged to be a log spell it, and each spelling is judged so.
use Rattle.std.proofs.Common.{◌≡◌, ℕ, zero, suc, ◌+◌, ◌-◌, ◌^◌, ◌<◌, ◌≤◌, ◌&&◌, Bool, true, false, cond, eqb, leb, ltb, List, [], ◌∷◌, ◌++◌, length, take, drop, Ok, refl, sym, ap, subst, ◌∙◌, append_assoc, arith}
use Rattle.std.specs.Prelude.{sum_by}
use Rattle.std.specs.List.{flat_map, list_all}
use Rattle.std.proofs.lemmas.Bool.{eqb-true, eqb-false, leb-true, le-leb, lt-ltb, le-ltb, ltb-false}
use Rattle.std.proofs.lemmas.List.{append-nil, nil_from_length, length-append, length-replicate, take_at, drop_at, take-append-drop, length-take}
use Rattle.std.proofs.lemmas.List.Sums.{sum_by-cons}
use Rattle.std.proofs.lemmas.List.Concat.{flat_map-cons}
use Rattle.octet_model.specs.declared.log.Gapped.{Gapped}
use Rattle.octet_model.specs.declared.log.ThreadLog.{ThreadLog}
use Rattle.octet_model.specs.Log.{is_mark, is_thread_log, are_thread_logs, is_log}
use Rattle.octet_log.specs.declared.cause.LogCause.TheVariants.{BadThreads, CutShort, Trailing}
use Rattle.octet_log.specs.Judging.{◌>>=◌, wanted, byte_at}
use Rattle.octet_log.specs.Inputs.{IsInput}
use Rattle.octet_log.specs.v2.Pieces.{marks_bytes, Piece, piece_bytes, ArePieces, marks_of, HaveMarks, marks_in, tail_bytes}
use Rattle.octet_log.specs.v2.Decoding.{digest_at, pieces_at, tail_at, no_marks, second_at}
use Rattle.octet_log.proofs.Valid.{and_first, and_second, and_both}
use Rattle.octet_log.proofs.Fields.{bind_ok, wanted_ok, guard_ok, ok_is, Takes, Takes-then, byte_takes, IsInput-drop}
use Rattle.octet_log.proofs.version2.Marks.{GoodShorts}
use Rattle.octet_log.proofs.version2.Pieces.{GoodPieces, all_added, pieces_take, pieces_again, HaveAccesses, accesses_bytes, tail_takes, tail_again, with_pieces, all_added_is, marks_of_all, all_added_count}

digest_takes : (total : ℕ) (bytes : List ℕ) (x : List ℕ × List ℕ) → IsInput bytes → digest_at total bytes ≡ Ok x → Takes bytes x.0 x.1 × (length x.0 ≡ 32)
digest_takes total bytes x is e =
    let g = guard_ok (ltb (length bytes) 32) (CutShort total) (take 32 bytes, drop 32 bytes) x e in
    let long : 32 ≤ length bytes = ltb-false (length bytes) 32 g.0 in
    subst (λ (y : List ℕ × List ℕ). Takes bytes y.0 y.1 × (length y.0 ≡ 32)) g.1
    (record { parts = sym (take-append-drop 32 bytes); rest_is = IsInput-drop 32 bytes is }, omega (arith, long, length-take 32 bytes))

pub digest_again : (total : ℕ) (digest rest : List ℕ) → length digest ≡ 32 → digest_at total (digest ++ rest) ≡ Ok (digest, rest)
digest_again total digest rest len =
    let long : ltb (length (digest ++ rest)) 32 ≡ false = le-ltb (length (digest ++ rest)) 32 (omega (arith, length-append digest rest, len)) in
    rw (long, take_at digest rest 32 len, drop_at digest rest 32 len) refl

short_both : (threads thread : ℕ) (a b : List Gapped) → GoodShorts threads thread a → GoodShorts threads thread b → GoodShorts threads thread (a ++ b)
short_both threads thread [] b x y = y
short_both threads thread (m ∷ a) b x y = (x.0, short_both threads thread a b x.1 y)

short_split : (threads thread : ℕ) (a b : List Gapped) → GoodShorts threads thread (a ++ b) → GoodShorts threads thread a × GoodShorts threads thread b
short_split threads thread [] b x = (tt, x)
short_split threads thread (m ∷ a) b x = let rest = short_split threads thread a b x.1 in ((x.0, rest.0), rest.1)

shorts_of : (threads thread before : ℕ) (pieces : List Piece) → GoodPieces threads before pieces → GoodShorts threads thread (marks_of thread pieces)
shorts_of threads thread before [] good = tt
shorts_of threads thread before (piece ∷ pieces) good =
    short_both threads thread (cond (eqb thread piece.thread) piece.marks []) (marks_of thread pieces)
    (elim (eqb thread piece.thread) as (λ v. eqb thread piece.thread ≡ v → GoodShorts threads thread (cond v piece.marks [])) [
      | true ↦ λ own. subst (λ (t : ℕ). GoodShorts threads t piece.marks) (sym (eqb-true thread piece.thread own)) good.0.good
      | false ↦ λ other. tt
    ] refl)
    (shorts_of threads thread (before + length piece.marks) pieces good.1)

are_good : (threads before : ℕ) (pieces : List Piece) → GoodPieces threads before pieces → ArePieces threads pieces
are_good threads before [] good = tt
are_good threads before (piece ∷ pieces) good = (record { thread = good.0.thread_is; some_mark = good.0.some_mark }, are_good threads (before + length piece.marks) pieces good.1)

good_few : (threads before : ℕ) (pieces : List Piece) → before ≤ 4793490 → GoodPieces threads before pieces → before + marks_of_all pieces ≤ 4793490
good_few threads before [] few good = omega (arith, few)
good_few threads before (piece ∷ pieces) few good = omega (arith, good_few threads (before + length piece.marks) pieces good.0.few good.1)

have_is : (n first before : ℕ) (pieces : List Piece) (ys : List ThreadLog) → HaveAccesses before (with_pieces first pieces (no_marks n)) ys → HaveMarks first pieces ys × (length ys ≡ n)
have_is zero first before pieces [] have = (tt, refl)
have_is zero first before pieces (y ∷ ys) have = absurd have
have_is (suc n) first before pieces [] have = absurd have
have_is (suc n) first before pieces (y ∷ ys) have =
    let rest = have_is n (suc first) (before + y.accesses) pieces ys have.3 in
    ((sym have.0, rest.0), ap suc rest.1)

same_count : (before : ℕ) (logs ys : List ThreadLog) → HaveAccesses before logs ys → marks_in ys ≡ marks_in logs
same_count before [] [] have = refl
same_count before [] (y ∷ ys) have = absurd have
same_count before (log ∷ logs) [] have = absurd have
same_count before (log ∷ logs) (y ∷ ys) have =
    sum_by-cons (λ (l : ThreadLog). length l.marks) y ys
    ∙ omega (arith, ap (λ (m : List Gapped). length m) have.0, same_count (before + y.accesses) logs ys have.3, sum_by-cons (λ (l : ThreadLog). length l.marks) log logs)

none_in : (n : ℕ) → marks_in (no_marks n) ≡ 0
none_in zero = refl
none_in (suc n) = sum_by-cons (λ (l : ThreadLog). length l.marks) (record { accesses = 0; marks = [] }) (no_marks n) ∙ omega (arith, none_in n)

accesses_sum : (before : ℕ) (logs ys : List ThreadLog) → before ≤ 262144 → HaveAccesses before logs ys → before + sum_by (λ log. log.accesses) ys ≤ 262144
accesses_sum before [] [] few have = omega (arith, few)
accesses_sum before [] (y ∷ ys) few have = absurd have
accesses_sum before (log ∷ logs) [] few have = absurd have
accesses_sum before (log ∷ logs) (y ∷ ys) few have = omega (arith, accesses_sum (before + y.accesses) logs ys have.1 have.3, sum_by-cons (λ (l : ThreadLog). l.accesses) y ys)

shorts_all : (threads thread : ℕ) (marks : List Gapped) → GoodShorts threads thread marks → list_all (λ m. is_mark threads thread m.mark) marks ≡ true
shorts_all threads thread [] good = refl
shorts_all threads thread (m ∷ marks) good = and_both (is_mark threads thread m.mark) (list_all (λ m. is_mark threads thread m.mark) marks) good.0.mark (shorts_all threads thread marks good.1)

all_shorts : (threads thread : ℕ) (marks : List Gapped) → list_all (λ m. is_mark threads thread m.mark) marks ≡ true → sum_by (λ m. m.gap) marks ≤ 262144 → GoodShorts threads thread marks
all_shorts threads thread [] all sum = tt
all_shorts threads thread (m ∷ marks) all sum =
    let more : m.gap + sum_by (λ m. m.gap) marks ≤ 262144 = omega (arith, sum, sum_by-cons (λ (g : Gapped). g.gap) m marks) in (
      record { mark = and_first (is_mark threads thread m.mark) (list_all (λ m. is_mark threads thread m.mark) marks) all; gap = omega (arith, more) },
      all_shorts threads thread marks (and_second (is_mark threads thread m.mark) (list_all (λ m. is_mark threads thread m.mark) marks) all) (omega (arith, more)),
    )

threads_valid : (threads first before placed : ℕ) (pieces : List Piece) (logs ys : List ThreadLog) → HaveAccesses before logs ys → HaveMarks first pieces ys → GoodPieces threads placed pieces → marks_in ys ≤ 4793490 → are_thread_logs threads first ys ≡ true
threads_valid threads first before placed pieces [] [] accesses have good few = refl
threads_valid threads first before placed pieces [] (y ∷ ys) accesses have good few = absurd accesses
threads_valid threads first before placed pieces (log ∷ logs) [] accesses have good few = absurd accesses
threads_valid threads first before placed pieces (log ∷ logs) (y ∷ ys) accesses have good few =
    let sum : length y.marks + marks_in ys ≤ 4793490 = omega (arith, few, sum_by-cons (λ (l : ThreadLog). length l.marks) y ys) in
    let gaps = sum_by (λ m. m.gap) y.marks in
    let shorts : GoodShorts threads first y.marks = subst (GoodShorts threads first) have.0 (shorts_of threads first placed pieces good) in
    and_both (is_thread_log threads first y) (are_thread_logs threads (suc first) ys)
    (and_both (ltb (length y.marks) (2 ^ 31) && leb gaps y.accesses) (list_all (λ m. is_mark threads first m.mark) y.marks)
    (and_both (ltb (length y.marks) (2 ^ 31)) (leb gaps y.accesses) (lt-ltb (length y.marks) (2 ^ 31) (omega (arith, sum))) (le-leb gaps y.accesses accesses.2))
    (shorts_all threads first y.marks shorts))
    (threads_valid threads (suc first) (before + y.accesses) placed pieces logs ys accesses.3 have.1 good (omega (arith, sum)))

-- what bytes behind the version 2 are, where they are read as a log
pub record IsSecond (bytes : List ℕ) (x : List ThreadLog × List ℕ) : Type 0 where
  pub pieces : List Piece
  pub whole : length x.1 ≡ 32
  pub are : ArePieces (length x.0) pieces
  pub have : HaveMarks 0 pieces x.0
  pub few : marks_in x.0 ≤ 4793490
  pub parts : bytes ≡ length x.0 ∷ x.1 ++ (flat_map piece_bytes pieces ++ tail_bytes x.0)
  pub valid : is_log x.0 ≡ true

-- the parts that were read, put together
second_is : (threads : ℕ) (bytes digest : List ℕ) (pieces : List Piece) (logs : List ThreadLog) → (leb 1 threads && leb threads 16) ≡ true → length digest ≡ 32 → GoodPieces threads 0 pieces
    → HaveAccesses 0 (all_added pieces (no_marks threads)) logs → bytes ≡ threads ∷ digest ++ (flat_map piece_bytes pieces ++ tail_bytes logs) → IsSecond bytes (logs, digest)
second_is threads bytes digest pieces logs allowed whole good accesses parts =
    let placed : HaveAccesses 0 (with_pieces 0 pieces (no_marks threads)) logs = subst (λ (l : List ThreadLog). HaveAccesses 0 l logs) (all_added_is pieces (no_marks threads)) accesses in
    let have = have_is threads 0 0 pieces logs placed in
    let are = are_good threads 0 pieces good in
    let none : length (no_marks threads) ≡ threads = length-replicate threads (record { accesses = 0; marks = [] }) in
    let count : marks_in logs ≡ marks_of_all pieces = omega (arith, same_count 0 (all_added pieces (no_marks threads)) logs accesses, all_added_count pieces (no_marks threads) (subst (λ (n : ℕ). ArePieces n pieces) (sym none) are), none_in threads) in
    let few : marks_in logs ≤ 4793490 = omega (arith, count, good_few threads 0 pieces (omega arith) good) in
    let sum : sum_by (λ log. log.accesses) logs ≤ 262144 = omega (arith, accesses_sum 0 (all_added pieces (no_marks threads)) logs (omega arith) accesses) in
    let valid : are_thread_logs threads 0 logs ≡ true = threads_valid threads 0 0 0 pieces (all_added pieces (no_marks threads)) logs accesses have.0 good few in
    record {
      pieces = pieces;
      whole = whole;
      are = subst (λ (n : ℕ). ArePieces n pieces) (sym have.1) are;
      have = have.0;
      few = few;
      parts = parts ∙ ap (λ (n : ℕ). n ∷ digest ++ (flat_map piece_bytes pieces ++ tail_bytes logs)) (sym have.1);
      valid =
          and_both ((leb 1 (length logs) && leb (length logs) 16) && leb (sum_by (λ log. log.accesses) logs) 262144) (are_thread_logs (length logs) 0 logs)
          (and_both (leb 1 (length logs) && leb (length logs) 16) (leb (sum_by (λ log. log.accesses) logs) 262144)
          (subst (λ (n : ℕ). (leb 1 n && leb n 16) ≡ true) (sym have.1) allowed)
          (le-leb (sum_by (λ log. log.accesses) logs) 262144 sum))
          (subst (λ (n : ℕ). are_thread_logs n 0 logs ≡ true) (sym have.1) valid);
    }

pub second_takes : (total : ℕ) (bytes : List ℕ) (x : List ThreadLog × List ℕ) → IsInput bytes → second_at total bytes ≡ Ok x → IsSecond bytes x
unfolding second_at
second_takes total bytes x is e =
    let t = bind_ok (byte_at total bytes) (λ threads. wanted (leb 1 threads.0 && leb threads.0 16) BadThreads >>= λ allowed. digest_at total threads.1 >>= λ digest. pieces_at (length digest.1) total threads.0 0 (no_marks threads.0) digest.1 >>= λ pieces. tail_at total 0 0 pieces.0 pieces.1 >>= λ logs. wanted (eqb (length logs.1) 0) (Trailing (total - length logs.1)) >>= λ ended. Ok (logs.0, digest.0)) x e in
    let a = wanted_ok (leb 1 t.0.0 && leb t.0.0 16) BadThreads (λ _. digest_at total t.0.1 >>= λ digest. pieces_at (length digest.1) total t.0.0 0 (no_marks t.0.0) digest.1 >>= λ pieces. tail_at total 0 0 pieces.0 pieces.1 >>= λ logs. wanted (eqb (length logs.1) 0) (Trailing (total - length logs.1)) >>= λ ended. Ok (logs.0, digest.0)) x t.2 in
    let d = bind_ok (digest_at total t.0.1) (λ digest. pieces_at (length digest.1) total t.0.0 0 (no_marks t.0.0) digest.1 >>= λ pieces. tail_at total 0 0 pieces.0 pieces.1 >>= λ logs. wanted (eqb (length logs.1) 0) (Trailing (total - length logs.1)) >>= λ ended. Ok (logs.0, digest.0)) x a.1 in
    let p = bind_ok (pieces_at (length d.0.1) total t.0.0 0 (no_marks t.0.0) d.0.1) (λ pieces. tail_at total 0 0 pieces.0 pieces.1 >>= λ logs. wanted (eqb (length logs.1) 0) (Trailing (total - length logs.1)) >>= λ ended. Ok (logs.0, d.0.0)) x d.2 in
    let l = bind_ok (tail_at total 0 0 p.0.0 p.0.1) (λ logs. wanted (eqb (length logs.1) 0) (Trailing (total - length logs.1)) >>= λ ended. Ok (logs.0, d.0.0)) x p.2 in
    let n = wanted_ok (eqb (length l.0.1) 0) (Trailing (total - length l.0.1)) (λ _. Ok (l.0.0, d.0.0)) x l.2 in
    let t0 = byte_takes total bytes t.0.0 t.0.1 is t.1 in
    let t1 = digest_takes total t.0.1 d.0 t0.rest_is d.1 in
    let t2 = pieces_take (length d.0.1) total t.0.0 0 (no_marks t.0.0) d.0.1 p.0 t1.0.rest_is p.1 in
    let t3 = tail_takes total 0 0 p.0.0 p.0.1 l.0 t2.takes.rest_is l.1 in
    let pieces = t2.pieces in
    let e23 = Takes-then d.0.1 (flat_map piece_bytes pieces ++ 255 ∷ []) p.0.1 (accesses_bytes l.0.0) l.0.1 t2.takes t3.0 in
    let e13 = Takes-then t.0.1 d.0.0 d.0.1 ((flat_map piece_bytes pieces ++ 255 ∷ []) ++ accesses_bytes l.0.0) l.0.1 t1.0 e23 in
    let e03 = Takes-then bytes (t.0.0 ∷ []) t.0.1 (d.0.0 ++ ((flat_map piece_bytes pieces ++ 255 ∷ []) ++ accesses_bytes l.0.0)) l.0.1 t0 e13 in
    let nothing : l.0.1 ≡ [] = nil_from_length l.0.1 (eqb-true (length l.0.1) 0 n.0) in
    let text = t.0.0 ∷ d.0.0 ++ ((flat_map piece_bytes pieces ++ 255 ∷ []) ++ accesses_bytes l.0.0) in
    let all : bytes ≡ text = e03.parts ∙ ap (λ (r : List ℕ). text ++ r) nothing ∙ append-nil text in
    let parts : bytes ≡ t.0.0 ∷ d.0.0 ++ (flat_map piece_bytes pieces ++ tail_bytes l.0.0) = all ∙ ap (λ (r : List ℕ). t.0.0 ∷ d.0.0 ++ r) (append_assoc (flat_map piece_bytes pieces) (255 ∷ []) (accesses_bytes l.0.0)) in
    let accesses : HaveAccesses 0 (all_added pieces (no_marks t.0.0)) l.0.0 = subst (λ (s : List ThreadLog). HaveAccesses 0 s l.0.0) t2.is t3.1 in
    subst (IsSecond bytes) (ok_is (l.0.0, d.0.0) x n.1) (second_is t.0.0 bytes d.0.0 pieces l.0.0 a.0 t1.1 t2.good accesses parts)

-- a valid log's threads, one by one
record ValidThread (threads thread : ℕ) (log : ThreadLog) : Type 0 where
  gaps : sum_by (λ m. m.gap) log.marks ≤ log.accesses
  marks : list_all (λ m. is_mark threads thread m.mark) log.marks ≡ true

valid_thread : (threads thread : ℕ) (log : ThreadLog) → is_thread_log threads thread log ≡ true → ValidThread threads thread log
valid_thread threads thread log valid =
    let gaps = sum_by (λ m. m.gap) log.marks in
    let all = list_all (λ m. is_mark threads thread m.mark) log.marks in
    let short = ltb (length log.marks) (2 ^ 31) in
    let first : (short && leb gaps log.accesses) ≡ true = and_first (short && leb gaps log.accesses) all valid in
    record { gaps = leb-true gaps log.accesses (and_second short (leb gaps log.accesses) first); marks = and_second (short && leb gaps log.accesses) all valid }

shorts_at : (threads first thread : ℕ) (pieces : List Piece) (ys : List ThreadLog) → HaveMarks first pieces ys → are_thread_logs threads first ys ≡ true → sum_by (λ log. log.accesses) ys ≤ 262144 → first ≤ thread → thread < first + length ys
    → GoodShorts threads thread (marks_of thread pieces)
shorts_at threads first thread pieces [] have valid sum low high = absurd (omega (arith, low, high))
shorts_at threads first thread pieces (y ∷ ys) have valid sum low high =
    let more : y.accesses + sum_by (λ log. log.accesses) ys ≤ 262144 = omega (arith, sum, sum_by-cons (λ (l : ThreadLog). l.accesses) y ys) in
    elim (eqb first thread) as (λ v. eqb first thread ≡ v → GoodShorts threads thread (marks_of thread pieces)) [
      | true ↦ λ here.
          let own = valid_thread threads first y (and_first (is_thread_log threads first y) (are_thread_logs threads (suc first) ys) valid) in
          let shorts : GoodShorts threads first (marks_of first pieces) = subst (GoodShorts threads first) (sym have.0) (all_shorts threads first y.marks own.marks (omega (arith, own.gaps, more))) in
          subst (λ (t : ℕ). GoodShorts threads t (marks_of t pieces)) (eqb-true first thread here) shorts
      | false ↦ λ there.
          let other : ¬ (first ≡ thread) = eqb-false first thread there in
          shorts_at threads (suc first) thread pieces ys have.1 (and_second (is_thread_log threads first y) (are_thread_logs threads (suc first) ys) valid) (omega (arith, more)) (omega (arith, low, other)) (omega (arith, high))
    ] refl

pub eqb_same : (n : ℕ) → eqb n n ≡ true
eqb_same n = grind arith

good_pieces : (threads before : ℕ) (pieces : List Piece) → ArePieces threads pieces → ((thread : ℕ) → thread < threads → GoodShorts threads thread (marks_of thread pieces)) → before + marks_of_all pieces ≤ 4793490 → GoodPieces threads before pieces
good_pieces threads before [] are shorts few = tt
good_pieces threads before (piece ∷ pieces) are shorts few =
    let own = short_split threads piece.thread (cond (eqb piece.thread piece.thread) piece.marks []) (marks_of piece.thread pieces) (shorts piece.thread are.0.thread) in
    let marks : GoodShorts threads piece.thread piece.marks = subst (λ (b : Bool). GoodShorts threads piece.thread (cond b piece.marks [])) (eqb_same piece.thread) own.0 in (
      record { thread_is = are.0.thread; some_mark = are.0.some_mark; few = omega (arith, few); good = marks },
      good_pieces threads (before + length piece.marks) pieces are.1
          (λ thread small. (short_split threads thread (cond (eqb thread piece.thread) piece.marks []) (marks_of thread pieces) (shorts thread small)).1) (omega (arith, few)),
    )

accesses_from : (threads first before : ℕ) (pieces : List Piece) (ys : List ThreadLog) → HaveMarks first pieces ys → are_thread_logs threads first ys ≡ true → before + sum_by (λ log. log.accesses) ys ≤ 262144 → HaveAccesses before (with_pieces first pieces (no_marks (length ys))) ys
accesses_from threads first before pieces [] have valid sum = tt
accesses_from threads first before pieces (y ∷ ys) have valid sum =
    let more : before + (y.accesses + sum_by (λ log. log.accesses) ys) ≤ 262144 = omega (arith, sum, sum_by-cons (λ (l : ThreadLog). l.accesses) y ys) in
    let own = valid_thread threads first y (and_first (is_thread_log threads first y) (are_thread_logs threads (suc first) ys) valid) in
    (sym have.0, omega (arith, more), own.gaps, accesses_from threads (suc first) (before + y.accesses) pieces ys have.1 (and_second (is_thread_log threads first y) (are_thread_logs threads (suc first) ys) valid) (omega (arith, more)))

pub few_pieces : (pieces : List Piece) → length pieces ≤ length (flat_map piece_bytes pieces)
few_pieces [] = omega arith
few_pieces (piece ∷ pieces) =
    subst (λ (l : List ℕ). length (piece ∷ pieces) ≤ length l) (sym (flat_map-cons piece_bytes piece pieces))
    (omega (arith, length-append (marks_bytes piece.marks) (flat_map piece_bytes pieces), few_pieces pieces))

-- what a valid log's pieces come to
pub record IsPieced (pieces : List Piece) (logs : List ThreadLog) : Type 0 where
  pub allowed : (leb 1 (length logs) && leb (length logs) 16) ≡ true
  pub few_threads : length logs ≤ 16
  pub good : GoodPieces (length logs) 0 pieces
  pub accesses : HaveAccesses 0 (all_added pieces (no_marks (length logs))) logs

pub is_pieced : (pieces : List Piece) (logs : List ThreadLog) → ArePieces (length logs) pieces → HaveMarks 0 pieces logs → marks_in logs ≤ 4793490 → is_log logs ≡ true → IsPieced pieces logs
is_pieced pieces logs are have few valid =
    let n = length logs in
    let sum = sum_by (λ log. log.accesses) logs in
    let head : ((leb 1 n && leb n 16) && leb sum 262144) ≡ true = and_first ((leb 1 n && leb n 16) && leb sum 262144) (are_thread_logs n 0 logs) valid in
    let allowed : (leb 1 n && leb n 16) ≡ true = and_first (leb 1 n && leb n 16) (leb sum 262144) head in
    let small : sum ≤ 262144 = leb-true sum 262144 (and_second (leb 1 n && leb n 16) (leb sum 262144) head) in
    let threads : are_thread_logs n 0 logs ≡ true = and_second ((leb 1 n && leb n 16) && leb sum 262144) (are_thread_logs n 0 logs) valid in
    let placed : HaveAccesses 0 (with_pieces 0 pieces (no_marks n)) logs = accesses_from n 0 0 pieces logs have threads (omega (arith, small)) in
    let accesses : HaveAccesses 0 (all_added pieces (no_marks n)) logs = subst (λ (l : List ThreadLog). HaveAccesses 0 l logs) (sym (all_added_is pieces (no_marks n))) placed in
    let none : length (no_marks n) ≡ n = length-replicate n (record { accesses = 0; marks = [] }) in
    let count : marks_in logs ≡ marks_of_all pieces = omega (arith, same_count 0 (all_added pieces (no_marks n)) logs accesses, all_added_count pieces (no_marks n) (subst (λ (m : ℕ). ArePieces m pieces) (sym none) are), none_in n) in
    record {
      allowed = allowed;
      few_threads = leb-true n 16 (and_second (leb 1 n) (leb n 16) allowed);
      good = good_pieces n 0 pieces are (λ thread within. shorts_at n 0 thread pieces logs have threads small (omega arith) (omega (arith, within))) (omega (arith, count, few));
      accesses = accesses;
    }

pub second_again : (total : ℕ) (digest : List ℕ) (pieces : List Piece) (logs : List ThreadLog) (rest : List ℕ) → length digest ≡ 32 → IsPieced pieces logs
    → second_at total ((length logs ∷ digest ++ (flat_map piece_bytes pieces ++ tail_bytes logs)) ++ rest) ≡ (wanted (eqb (length rest) 0) (Trailing (total - length rest)) >>= λ ended. Ok (logs, digest))
unfolding second_at
second_again total digest pieces logs rest whole p =
    let n = length logs in
    let behind = flat_map piece_bytes pieces ++ 255 ∷ (accesses_bytes logs ++ rest) in
    let regrouped : (n ∷ digest ++ (flat_map piece_bytes pieces ++ tail_bytes logs)) ++ rest ≡ n ∷ (digest ++ behind) =
    ap (λ (l : List ℕ). n ∷ l) (append_assoc digest (flat_map piece_bytes pieces ++ tail_bytes logs) rest ∙ ap (λ (l : List ℕ). digest ++ l) (append_assoc (flat_map piece_bytes pieces) (tail_bytes logs) rest)) in
    let most : length pieces < length behind = omega (arith, few_pieces pieces, length-append (flat_map piece_bytes pieces) (255 ∷ (accesses_bytes logs ++ rest))) in
    ap (second_at total) regrouped
    ∙ rw (p.allowed, digest_again total digest behind whole, pieces_again pieces (length behind) total n 0 (no_marks n) (accesses_bytes logs ++ rest) most p.few_threads p.good, tail_again total 0 0 (all_added pieces (no_marks n)) logs rest p.accesses) refl
