-- Where a spelling of version 2 is cut, it is judged as cut there.
use Rattle.std.proofs.Common.{◌≡◌, ℕ, zero, suc, ◌+◌, ◌-◌, ◌^◌, ◌<◌, ◌≤◌, ◌&&◌, true, false, cond, not, eqb, leb, ltb, List, [], ◌∷◌, ◌++◌, length, Result, Ok, refl, sym, ap, ◌∙◌, append_assoc, arith}
use Rattle.std.specs.Prelude.{sum_by}
use Rattle.std.specs.List.{flat_map}
use Rattle.std.proofs.lemmas.Bool.{lt-ltb, le-leb, ne_eqb}
use Rattle.std.proofs.lemmas.List.{length-append}
use Rattle.std.proofs.lemmas.List.Concat.{flat_map-cons}
use Rattle.octet_model.specs.declared.event.Mark.{Mark}
use Rattle.octet_model.specs.declared.event.Mark.TheVariants.{Join, Draw, Fence}
use Rattle.octet_model.specs.declared.log.Gapped.{Gapped}
use Rattle.octet_model.specs.declared.log.ThreadLog.{ThreadLog}
use Rattle.octet_model.specs.Log.{is_mark}
use Rattle.octet_log.specs.declared.cause.LogCause.{LogCause}
use Rattle.octet_log.specs.declared.cause.LogCause.TheVariants.{BadThreads, BadMark, TooManyAccesses, Trailing, BadPiece, GapsOver, TooManyMarks}
use Rattle.octet_log.specs.Judging.{◌>>=◌, wanted, byte_at}
use Rattle.octet_log.specs.v2.Short.{short_bytes, short_at}
use Rattle.octet_log.specs.v2.Pieces.{short_mark_bytes, marks_bytes, Piece, piece_bytes}
use Rattle.octet_log.specs.v2.Decoding.{kind_at, short_mark_at, short_marks_at, piece_at, added, pieces_at, accesses_at, tail_at, digest_at, no_marks, second_at}
use Rattle.octet_log.proofs.Valid.{and_first}
use Rattle.octet_log.proofs.Cuts.{IsCutIn, cons_is, nothing≢more, then_cut, more_cut, wanted_cut, byte_cut, shorter, each_cut}
use Rattle.octet_log.proofs.version2.Groups.{short_again, short_cut}
use Rattle.octet_log.proofs.version2.Marks.{kind_of, behind_gap, mark_parts, known_kind, GoodShort, GoodShorts, short_mark_again, GoodPiece, piece_again}
use Rattle.octet_log.proofs.version2.Pieces.{GoodPieces, all_added, pieces_again, HaveAccesses, accesses_bytes, accesses_again}
use Rattle.octet_log.proofs.version2.Whole.{digest_again, few_pieces, IsPieced}

kind_cut : (total threads thread place : ℕ) (mark : Mark) → is_mark threads thread mark ≡ true → IsCutIn total (kind_at total threads thread place (kind_of mark)) (behind_gap mark)
kind_cut total threads thread place (Join from upto) valid =
    let other = ltb from threads && not (eqb from thread) in
    let last = more_cut total (short_at total) (λ number. Ok (Join from number.0, number.1)) (short_bytes upto) (short_cut total upto) in
    then_cut total (byte_at total) (λ named. wanted (ltb named.0 threads && not (eqb named.0 thread)) (BadMark place) >>= λ other. short_at total named.1 >>= λ number. Ok (Join named.0 number.0, number.1)) (from ∷ []) (short_bytes upto) from
    (λ r. refl) (byte_cut total from) (wanted_cut total (λ r. short_at total r >>= λ number. Ok (Join from number.0, number.1)) other (BadMark place) (short_bytes upto) (and_first other (ltb upto (2 ^ 64)) valid) last)
kind_cut total threads thread place (Draw number) valid =
    more_cut total (short_at total) (λ read. wanted (leb 1 read.0) (BadMark place) >>= λ some_number. Ok (Draw read.0, read.1)) (short_bytes number) (short_cut total number)
kind_cut total threads thread place (Fence number) valid =
    more_cut total (short_at total) (λ read. wanted (leb 1 read.0) (BadMark place) >>= λ some_number. Ok (Fence read.0, read.1)) (short_bytes number) (short_cut total number)

-- a mark's bytes from a part on
abbrev after_gap : ℕ → ℕ → ℕ → ℕ → ℕ → ℕ → List ℕ → Result (Gapped × List ℕ) LogCause
after_gap total threads thread place kind gap bytes = kind_at total threads thread place kind bytes >>= λ mark. Ok (record { gap = gap; mark = mark.0 }, mark.1)

abbrev after_kind : ℕ → ℕ → ℕ → ℕ → ℕ → List ℕ → Result (Gapped × List ℕ) LogCause
after_kind total threads thread place kind bytes = short_at total bytes >>= λ gap. wanted (leb gap.0 262144) (BadMark place) >>= λ small. after_gap total threads thread place kind gap.0 gap.1

short_mark_cut : (total threads thread : ℕ) (gapped : Gapped) → GoodShort threads thread gapped → IsCutIn total (short_mark_at total threads thread) (short_mark_bytes gapped)
unfolding short_mark_at
short_mark_cut total threads thread gapped good front next rest e = from_kind front next rest (sym (mark_parts gapped.gap gapped.mark) ∙ e)
  where
    place : ℕ
    place = total - length front

    kind : ℕ
    kind = kind_of gapped.mark

    from_gap : IsCutIn total (after_kind total threads thread place kind) (short_bytes gapped.gap ++ behind_gap gapped.mark)
    from_gap =
        then_cut total (short_at total) (λ gap. wanted (leb gap.0 262144) (BadMark place) >>= λ small. after_gap total threads thread place kind gap.0 gap.1) (short_bytes gapped.gap) (behind_gap gapped.mark) gapped.gap
        (λ r. short_again total gapped.gap r (omega (arith, good.gap))) (short_cut total gapped.gap)
        (wanted_cut total (after_gap total threads thread place kind gapped.gap) (leb gapped.gap 262144) (BadMark place) (behind_gap gapped.mark) (le-leb gapped.gap 262144 good.gap)
        (more_cut total (kind_at total threads thread place kind) (λ mark. Ok (record { gap = gapped.gap; mark = mark.0 }, mark.1)) (behind_gap gapped.mark) (kind_cut total threads thread place gapped.mark good.mark)))

    from_kind : IsCutIn total (λ r. byte_at total r >>= λ kind. wanted (leb 1 kind.0 && leb kind.0 3) (BadMark place) >>= λ known. after_kind total threads thread place kind.0 kind.1) (kind ∷ (short_bytes gapped.gap ++ behind_gap gapped.mark))
    from_kind =
        then_cut total (byte_at total) (λ kind. wanted (leb 1 kind.0 && leb kind.0 3) (BadMark place) >>= λ known. after_kind total threads thread place kind.0 kind.1) (kind ∷ []) (short_bytes gapped.gap ++ behind_gap gapped.mark) kind
        (λ r. refl) (byte_cut total kind)
        (wanted_cut total (after_kind total threads thread place kind) (leb 1 kind && leb kind 3) (BadMark place) (short_bytes gapped.gap ++ behind_gap gapped.mark) (known_kind gapped.mark) from_gap)

short_marks_cut : (total threads thread : ℕ) (marks : List Gapped) → GoodShorts threads thread marks → IsCutIn total (short_marks_at total threads thread (length marks)) (flat_map short_mark_bytes marks)
short_marks_cut total threads thread marks good =
    each_cut {S = Unit {0}} total (λ _. short_mark_at total threads thread) (λ state _. state) short_mark_bytes (λ _. GoodShort threads thread) (λ _ m r g. short_mark_again total threads thread m r g)
    (λ _ m g. short_mark_cut total threads thread m g) marks tt good

piece_cut : (total threads place thread before : ℕ) (marks : List Gapped) → GoodPiece threads thread before marks → IsCutIn total (piece_at total threads place thread before) (marks_bytes marks)
unfolding piece_at
piece_cut total threads place thread before marks good =
    let n = length marks in
    let spelled = flat_map short_mark_bytes marks in
    let few = wanted_cut total (short_marks_at total threads thread n) (leb (before + n) 4793490) TooManyMarks spelled (le-leb (before + n) 4793490 good.few) (short_marks_cut total threads thread marks good.good) in
    let some = wanted_cut total (λ r. wanted (leb (before + n) 4793490) TooManyMarks >>= λ few. short_marks_at total threads thread n r) (leb 1 n) (BadPiece place) spelled (le-leb 1 n good.some_mark) few in
    let counted = then_cut total (short_at total) (λ count. wanted (leb 1 count.0) (BadPiece place) >>= λ some_mark. wanted (leb (before + count.0) 4793490) TooManyMarks >>= λ few. short_marks_at total threads thread count.0 count.1) (short_bytes n) spelled n
    (λ r. short_again total n r (omega (arith, good.few))) (short_cut total n) some in
    wanted_cut total (λ r. short_at total r >>= λ count. wanted (leb 1 count.0) (BadPiece place) >>= λ some_mark. wanted (leb (before + count.0) 4793490) TooManyMarks >>= λ few. short_marks_at total threads thread count.0 count.1) (ltb thread threads) (BadPiece place) (marks_bytes marks)
    (lt-ltb thread threads good.thread_is) counted

pieces_cut : (pieces : List Piece) (most total threads before : ℕ) (logs : List ThreadLog) → threads ≤ 16 → GoodPieces threads before pieces → IsCutIn total (pieces_at most total threads before logs) (flat_map piece_bytes pieces ++ 255 ∷ [])
unfolding pieces_at
pieces_cut pieces zero total threads before logs few good front next rest e = refl
pieces_cut [] (suc most) total threads before logs few good [] next rest e = refl
pieces_cut [] (suc most) total threads before logs few good (x ∷ front) next rest e = absurd (nothing≢more front next rest (cons_is 255 x [] (front ++ next ∷ rest) e).1)
pieces_cut (piece ∷ pieces) (suc most) total threads before logs few good front next rest e =
    let place = total - length front in
    let marks = piece.marks in
    let others = flat_map piece_bytes pieces ++ 255 ∷ [] in
    let regrouped : flat_map piece_bytes (piece ∷ pieces) ++ 255 ∷ [] ≡ piece.thread ∷ (marks_bytes marks ++ others) = ap (λ (l : List ℕ). l ++ 255 ∷ []) (flat_map-cons piece_bytes piece pieces) ∙ append_assoc (piece_bytes piece) (flat_map piece_bytes pieces) (255 ∷ []) in
    let goes : eqb piece.thread 255 ≡ false = ne_eqb piece.thread 255 (λ is. absurd (omega (arith, is, good.0.thread_is, few))) in
    let behind : IsCutIn total (λ r. piece_at total threads place piece.thread before r >>= λ read. pieces_at most total threads (before + length read.0) (added 0 piece.thread read.0 logs) read.1) (marks_bytes marks ++ others) =
    then_cut total (piece_at total threads place piece.thread before) (λ read. pieces_at most total threads (before + length read.0) (added 0 piece.thread read.0 logs) read.1) (marks_bytes marks) others marks
    (λ r. piece_again total threads place piece.thread before marks r good.0) (piece_cut total threads place piece.thread before marks good.0)
    (pieces_cut pieces most total threads (before + length marks) (added 0 piece.thread marks logs) few good.1) in
    let not_last : IsCutIn total (λ r. cond (eqb piece.thread 255) (Ok (logs, r)) (piece_at total threads place piece.thread before r >>= λ read. pieces_at most total threads (before + length read.0) (added 0 piece.thread read.0 logs) read.1)) (marks_bytes marks ++ others) =
    λ f n r is. rw goes (behind f n r is) in
    then_cut total (byte_at total) (λ thread. cond (eqb thread.0 255) (Ok (logs, thread.1)) (piece_at total threads place thread.0 before thread.1 >>= λ read. pieces_at most total threads (before + length read.0) (added 0 thread.0 read.0 logs) read.1)) (piece.thread ∷ []) (marks_bytes marks ++ others) piece.thread
    (λ r. refl) (byte_cut total piece.thread) not_last front next rest (sym regrouped ∙ e)

accesses_cut : (total thread before : ℕ) (log : ThreadLog) (accesses : ℕ) → IsCutIn total (accesses_at total thread before log) (short_bytes accesses)
unfolding accesses_at
accesses_cut total thread before log accesses =
    more_cut total (short_at total) (λ read. wanted (leb (before + read.0) 262144) TooManyAccesses >>= λ allowed. wanted (leb (sum_by (λ m. m.gap) log.marks) read.0) (GapsOver thread) >>= λ within. Ok (record { accesses = read.0; marks = log.marks }, read.1)) (short_bytes accesses) (short_cut total accesses)

tail_cut : (total thread before : ℕ) (logs ys : List ThreadLog) → HaveAccesses before logs ys → IsCutIn total (tail_at total thread before logs) (accesses_bytes ys)
unfolding tail_at
tail_cut total thread before [] [] have front next rest e = absurd (nothing≢more front next rest e)
tail_cut total thread before [] (y ∷ ys) have front next rest e = absurd have
tail_cut total thread before (log ∷ logs) [] have front next rest e = absurd have
tail_cut total thread before (log ∷ logs) (y ∷ ys) have front next rest e =
    then_cut total (accesses_at total thread before log) (λ first. tail_at total (suc thread) (before + first.0.accesses) logs first.1 >>= λ others. Ok (first.0 ∷ others.0, others.1)) (short_bytes y.accesses) (accesses_bytes ys) y
    (λ r. accesses_again total thread before log y r have.0 have.1 have.2) (accesses_cut total thread before log y.accesses)
    (more_cut total (tail_at total (suc thread) (before + y.accesses) logs) (λ others. Ok (y ∷ others.0, others.1)) (accesses_bytes ys) (tail_cut total (suc thread) (before + y.accesses) logs ys have.3))
    front next rest (sym (flat_map-cons (λ (l : ThreadLog). short_bytes l.accesses) y ys) ∙ e)

digest_part_cut : (total : ℕ) (digest : List ℕ) → length digest ≡ 32 → IsCutIn total (digest_at total) digest
digest_part_cut total digest whole front next rest e =
    let short : length front < 32 = omega (arith, shorter digest front next rest e, whole) in
    rw (lt-ltb (length front) 32 short) refl

-- what stands behind the digest, and behind the number of threads
abbrev after_digest : ℕ → ℕ → List ℕ → List ℕ → Result (List ThreadLog × List ℕ) LogCause
after_digest total threads digest bytes =
    pieces_at (length bytes) total threads 0 (no_marks threads) bytes >>= λ pieces. tail_at total 0 0 pieces.0 pieces.1 >>= λ logs. wanted (eqb (length logs.1) 0) (Trailing (total - length logs.1)) >>= λ ended. Ok (logs.0, digest)

abbrev after_threads : ℕ → ℕ → List ℕ → Result (List ThreadLog × List ℕ) LogCause
after_threads total threads bytes = digest_at total bytes >>= λ digest. after_digest total threads digest.0 digest.1

pub second_cut : (total : ℕ) (digest : List ℕ) (pieces : List Piece) (logs : List ThreadLog) → length digest ≡ 32 → IsPieced pieces logs
    → IsCutIn total (second_at total) (length logs ∷ (digest ++ ((flat_map piece_bytes pieces ++ 255 ∷ []) ++ accesses_bytes logs)))
unfolding second_at
second_cut total digest pieces logs whole p =
    let n = length logs in
    let ended = flat_map piece_bytes pieces ++ 255 ∷ [] in
    let placed = all_added pieces (no_marks n) in
    let last = more_cut total (tail_at total 0 0 placed) (λ logs. wanted (eqb (length logs.1) 0) (Trailing (total - length logs.1)) >>= λ ended. Ok (logs.0, digest)) (accesses_bytes logs) (tail_cut total 0 0 placed logs p.accesses) in
    let again : (r : List ℕ) → pieces_at (length (ended ++ r)) total n 0 (no_marks n) (ended ++ r) ≡ Ok (placed, r) = λ r.
    let regrouped : ended ++ r ≡ flat_map piece_bytes pieces ++ 255 ∷ r = append_assoc (flat_map piece_bytes pieces) (255 ∷ []) r in
    let most : length pieces < length (ended ++ r) = omega (arith, few_pieces pieces, ap (λ (l : List ℕ). length l) regrouped, length-append (flat_map piece_bytes pieces) (255 ∷ r)) in
    ap (pieces_at (length (ended ++ r)) total n 0 (no_marks n)) regrouped ∙ pieces_again pieces (length (ended ++ r)) total n 0 (no_marks n) r most p.few_threads p.good in
    let pieced = then_cut total (λ r. pieces_at (length r) total n 0 (no_marks n) r) (λ pieces. tail_at total 0 0 pieces.0 pieces.1 >>= λ logs. wanted (eqb (length logs.1) 0) (Trailing (total - length logs.1)) >>= λ ended. Ok (logs.0, digest)) ended (accesses_bytes logs) placed
    again (λ front next rest e. pieces_cut pieces (length front) total n 0 (no_marks n) p.few_threads p.good front next rest e) last in
    let digested = then_cut total (digest_at total) (λ digest. after_digest total n digest.0 digest.1) digest (ended ++ accesses_bytes logs) digest (λ r. digest_again total digest r whole) (digest_part_cut total digest whole) pieced in
    then_cut total (byte_at total) (λ threads. wanted (leb 1 threads.0 && leb threads.0 16) BadThreads >>= λ allowed. after_threads total threads.0 threads.1) (n ∷ []) (digest ++ (ended ++ accesses_bytes logs)) n
    (λ r. refl) (byte_cut total n) (wanted_cut total (after_threads total n) (leb 1 n && leb n 16) BadThreads (digest ++ (ended ++ accesses_bytes logs)) p.allowed digested)
