-- Where a log's spelling of version 1 is cut, it is judged as cut there.
use Rattle.std.proofs.Common.{◌≡◌, ℕ, ◌+◌, ◌-◌, ◌^◌, ◌<◌, ◌&&◌, true, false, leb, ltb, eqb, List, [], ◌∷◌, ◌++◌, length, Ok, Err, refl, ◌∙◌, arith, inl, inr}
use Rattle.std.specs.Prelude.{codes}
use Rattle.std.specs.List.{flat_map}
use Rattle.std.specs.Int.{Width, w32, byte_len, to_be_bytes}
use Rattle.std.proofs.lemmas.Bool.{lt-ltb, le-ltb, lt-leb}
use Rattle.std.proofs.lemmas.List.{length-append}
use Rattle.octet_model.specs.declared.log.Gapped.{Gapped}
use Rattle.octet_model.specs.declared.log.ThreadLog.{ThreadLog}
use Rattle.octet_model.specs.Log.{is_log}
use Rattle.octet_model.specs.Texts.{mark_bytes, thread_bytes, log_bytes}
use Rattle.octet_log.specs.declared.cause.LogCause.TheVariants.{BadVersion, BadThreads, CutShort, TooManyAccesses, Trailing}
use Rattle.octet_log.specs.Judging.{◌>>=◌, wanted, byte_at}
use Rattle.octet_log.specs.v1.Decoding.{number_at, mark_at, marks_at, thread_at, threads_at, body_at, decoded}
use Rattle.octet_log.proofs.Fields.{IsWide, wide32, number_again}
use Rattle.octet_log.proofs.version1.Loops.{read_next, next_thread}
use Rattle.octet_log.proofs.version1.Marks.{GoodMarks, GoodMark32, accesses_left, mark_again_at, all_small, length-bytes_of_mark}
use Rattle.octet_log.proofs.version1.Threads.{GoodThread, GoodThreads, parts, thread_again}
use Rattle.octet_log.proofs.version1.Whole.{body, good_log}
use Rattle.octet_log.specs.Inputs.{cut_cause}
use Rattle.octet_log.proofs.Cuts.{split, IsCutIn, then_cut, more_cut, wanted_cut, byte_cut, shorter, each_cut, no_magic}

number_cut : (w : Width) (limit : ℕ) (wide : IsWide w limit) (total number : ℕ) → IsCutIn total (number_at w total) (to_be_bytes w number)
number_cut w limit wide total number front next rest e =
    let short : length front < byte_len w = omega (arith, shorter (to_be_bytes w number) front next rest e, wide.len number) in
    rw (lt-ltb (length front) (byte_len w) short) refl

mark_cut : (total threads thread left : ℕ) (text : List ℕ) → length text ≡ 14 → IsCutIn total (mark_at total threads thread left) text
unfolding mark_at
mark_cut total threads thread left text len front next rest e =
    let short : length front < 14 = omega (arith, shorter text front next rest e, len) in
    rw (lt-leb 14 (length front) short) refl

marks_cut : (total threads thread accesses : ℕ) (marks : List Gapped) → accesses < 2 ^ 32 → GoodMarks threads thread accesses marks → IsCutIn total (marks_at total threads thread accesses (length marks)) (flat_map mark_bytes marks)
marks_cut total threads thread accesses marks small good =
    each_cut total (mark_at total threads thread) accesses_left mark_bytes (GoodMark32 threads thread)
    (λ left m r g. mark_again_at total threads thread left m.gap m.mark r g.small g.good.gap g.good.mark)
    (λ left m g. mark_cut total threads thread left (mark_bytes m) (length-bytes_of_mark m.gap m.mark))
    marks accesses (all_small threads thread accesses marks small good)

thread_cut : (total threads thread before : ℕ) (log : ThreadLog) → GoodThread threads (thread, before) log → IsCutIn total (thread_at total threads thread before) (thread_bytes log)
unfolding thread_at
thread_cut total threads thread before log good =
    let p = parts threads thread before log good in
    let last = more_cut total (marks_at total threads thread log.accesses (length log.marks)) (λ marks. Ok (record { accesses = log.accesses; marks = marks.0 }, marks.1)) (flat_map mark_bytes log.marks) (marks_cut total threads thread log.accesses log.marks p.small p.marks) in
    let counted = then_cut total (number_at w32 total) (λ count. marks_at total threads thread log.accesses count.0 count.1 >>= λ marks. Ok (record { accesses = log.accesses; marks = marks.0 }, marks.1)) (to_be_bytes w32 (length log.marks)) (flat_map mark_bytes log.marks) (length log.marks)
    (λ r. number_again w32 (2 ^ 32) wide32 total (length log.marks) r p.few) (number_cut w32 (2 ^ 32) wide32 total (length log.marks)) last in
    let allowed = wanted_cut total (λ r. number_at w32 total r >>= λ count. marks_at total threads thread log.accesses count.0 count.1 >>= λ marks. Ok (record { accesses = log.accesses; marks = marks.0 }, marks.1)) (leb (before + log.accesses) 262144) TooManyAccesses (to_be_bytes w32 (length log.marks) ++ flat_map mark_bytes log.marks) p.sum counted in
    then_cut total (number_at w32 total) (λ accesses. wanted (leb (before + accesses.0) 262144) TooManyAccesses >>= λ allowed. number_at w32 total accesses.1 >>= λ count. marks_at total threads thread accesses.0 count.0 count.1 >>= λ marks. Ok (record { accesses = accesses.0; marks = marks.0 }, marks.1)) (to_be_bytes w32 log.accesses) (to_be_bytes w32 (length log.marks) ++ flat_map mark_bytes log.marks) log.accesses
    (λ r. number_again w32 (2 ^ 32) wide32 total log.accesses r p.small) (number_cut w32 (2 ^ 32) wide32 total log.accesses) allowed

threads_cut : (total : ℕ) (logs : List ThreadLog) → GoodThreads (length logs) 0 0 logs → IsCutIn total (threads_at total (length logs)) (flat_map thread_bytes logs)
threads_cut total logs good =
    each_cut total (read_next total (length logs)) next_thread thread_bytes (GoodThread (length logs))
    (λ state log r g. thread_again total (length logs) state.0 state.1 log r g)
    (λ state log g. thread_cut total (length logs) state.0 state.1 log g)
    logs (0, 0) good

body_cut : (total : ℕ) (logs : List ThreadLog) → is_log logs ≡ true → IsCutIn total (body_at total) (body logs)
unfolding body_at
body_cut total logs valid =
    let good = good_log logs valid in
    let last = more_cut total (threads_at total (length logs)) (λ logs. wanted (eqb (length logs.1) 0) (Trailing (total - length logs.1)) >>= λ ended. Ok logs.0) (flat_map thread_bytes logs) (threads_cut total logs good.1) in
    let allowed = wanted_cut total (λ r. threads_at total (length logs) r >>= λ logs. wanted (eqb (length logs.1) 0) (Trailing (total - length logs.1)) >>= λ ended. Ok logs.0) (leb 1 (length logs) && leb (length logs) 16) BadThreads (flat_map thread_bytes logs) good.0 last in
    let counted = then_cut total (byte_at total) (λ threads. wanted (leb 1 threads.0 && leb threads.0 16) BadThreads >>= λ allowed. threads_at total threads.0 threads.1 >>= λ logs. wanted (eqb (length logs.1) 0) (Trailing (total - length logs.1)) >>= λ ended. Ok logs.0) (length logs ∷ []) (flat_map thread_bytes logs) (length logs)
    (λ r. refl) (byte_cut total (length logs)) allowed in
    then_cut total (byte_at total) (λ version. wanted (eqb version.0 1) BadVersion >>= λ known. byte_at total version.1 >>= λ threads. wanted (leb 1 threads.0 && leb threads.0 16) BadThreads >>= λ allowed. threads_at total threads.0 threads.1 >>= λ logs. wanted (eqb (length logs.1) 0) (Trailing (total - length logs.1)) >>= λ ended. Ok logs.0) (1 ∷ []) (length logs ∷ flat_map thread_bytes logs) 1
    (λ r. refl) (byte_cut total 1) counted

pub cut : (logs : List ThreadLog) (front : List ℕ) (next : ℕ) (rest : List ℕ) → is_log logs ≡ true → log_bytes logs ≡ front ++ next ∷ rest → decoded front ≡ Err (cut_cause front)
unfolding decoded
cut logs front next rest valid e =
    elim (split (codes "OCTL") (body logs) front next rest e) [
      | inl p ↦
          let short : length front < 4 = shorter (codes "OCTL") front next p.0 p.1 in
          rw (no_magic front short, lt-ltb (length front) 4 short) refl
      | inr p ↦
          let long : ltb (length front) 4 ≡ false = le-ltb (length front) 4 (rw p.1 (omega (arith, length-append (codes "OCTL") p.0))) in
          let judged : body_at (length front) p.0 ≡ Err (CutShort (length front)) = body_cut (length front) logs valid p.0 next rest p.2 in
          let behind : decoded front ≡ body_at (length front) p.0 = rw p.1 refl in
          behind ∙ judged ∙ rw long refl
    ]
