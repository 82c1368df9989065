-- After a good front, the next field or mark is refused for its own cause.
use Rattle.std.proofs.Common.{◌≡◌, ◌≢◌, ◌⊎◌, ℕ, suc, ◌+◌, ◌-◌, ◌^◌, ◌<◌, ◌≤◌, ◌&&◌, true, false, cond, leb, List, [], ◌∷◌, ◌++◌, length, take, drop, Option, Some, None, Result, Ok, Err, refl, sym, ap, subst, ◌∙◌, append_assoc, arith, inl, inr}
use Rattle.std.specs.Prelude.{codes}
use Rattle.std.specs.Str.{bytes_eq}
use Rattle.std.specs.List.{flat_map}
use Rattle.std.specs.Int.{Width, w32, w64, byte_len, from_be_bytes, to_be_bytes}
use Rattle.std.proofs.lemmas.Bool.{lt-ltb, le-ltb, le-leb, lt-leb, ne_eqb}
use Rattle.std.proofs.lemmas.List.{length-append, length-drop, take_at, drop_at}
use Rattle.std.proofs.lemmas.List.Sums.{sum_by-cons}
use Rattle.std.proofs.lemmas.Slice.Eq.{bytes_eq-Decides}
use Rattle.octet_model.specs.declared.event.Mark.{Mark}
use Rattle.octet_model.specs.declared.log.Gapped.{Gapped}
use Rattle.octet_model.specs.declared.log.ThreadLog.{ThreadLog}
use Rattle.octet_model.specs.Log.{is_mark}
use Rattle.octet_model.specs.Texts.{mark_bytes, thread_bytes}
use Rattle.octet_log.specs.declared.cause.LogCause.{LogCause}
use Rattle.octet_log.specs.declared.cause.LogCause.TheVariants.{NoMagic, BadVersion, BadThreads, CutShort, BadMark, TooManyAccesses}
use Rattle.octet_log.specs.Judging.{◌>>=◌, byte_at}
use Rattle.octet_log.specs.v1.Decoding.{number_at, spelled_mark, judged_mark, mark_at, marks_at, thread_at, threads_at, body_at, decoded}
use Rattle.octet_log.specs.Inputs.{IsInput}
use Rattle.octet_log.specs.v1.Refusals.{accesses_of, gaps_of, IsStart, start_bytes, IsWithin, within_bytes, SpellsNoNext}
use Rattle.octet_log.proofs.Fields.{wide32, number_again, IsInput-drop}
use Rattle.octet_log.proofs.version1.Loops.{read_next, next_thread}
use Rattle.octet_log.proofs.version1.Marks.{GoodMark32, accesses_left, mark_takes, mark_again_at, are_marks, all_small, length-bytes_of_mark}
use Rattle.octet_log.proofs.version1.Threads.{GoodThread, are_threads, thread_again}
use Rattle.octet_log.proofs.Valid.{not_allowed}
use Rattle.octet_log.proofs.Each.{last, each_fails}

no_magic : (front : List ℕ) → front ≢ codes "OCTL" → bytes_eq front (codes "OCTL") ≡ false
no_magic front other =
    elim (bytes_eq front (codes "OCTL")) as (λ b. bytes_eq front (codes "OCTL") ≡ b → b ≡ false) [
      | true ↦ λ is. absurd (other ((bytes_eq-Decides front (codes "OCTL")).0 is))
      | false ↦ λ is. refl
    ] refl

pub lacks_magic : (bytes : List ℕ) → take 4 bytes ≢ codes "OCTL" → decoded bytes ≡ Err NoMagic
unfolding decoded
lacks_magic bytes other = rw (no_magic (take 4 bytes) other) refl

pub other_version : (version : ℕ) (rest : List ℕ) → version ≢ 1 → decoded (codes "OCTL" ++ version ∷ rest) ≡ Err BadVersion
unfolding decoded body_at
other_version version rest other = rw (ne_eqb version 1 other) refl

pub bad_threads : (threads : ℕ) (rest : List ℕ) → (threads ≡ 0) ⊎ (16 < threads) → decoded (codes "OCTL" ++ 1 ∷ threads ∷ rest) ≡ Err BadThreads
unfolding decoded body_at
bad_threads threads rest bad = rw (not_allowed threads bad) refl

pub head_cut : (decoded (codes "OCTL") ≡ Err (CutShort 4)) × (decoded (codes "OCTL" ++ 1 ∷ []) ≡ Err (CutShort 5))
unfolding decoded body_at
head_cut = (refl, refl)

last_thread : (thread before : ℕ) (logs : List ThreadLog) → last next_thread (thread, before) logs ≡ (thread + length logs, before + accesses_of logs)
last_thread thread before [] = λ i. (sym (let e : thread + 0 ≡ thread = omega arith in e) i, sym (let e : before + 0 ≡ before = omega arith in e) i)
last_thread thread before (log ∷ logs) =
    let number : suc thread + length logs ≡ thread + suc (length logs) = omega arith in
    let sum : before + log.accesses + accesses_of logs ≡ before + accesses_of (log ∷ logs) = omega (arith, sum_by-cons (λ (l : ThreadLog). l.accesses) log logs) in
    last_thread (suc thread) (before + log.accesses) logs ∙ λ i. (number i, sum i)

last_left : (left : ℕ) (marks : List Gapped) → last accesses_left left marks ≡ left - gaps_of marks
last_left left [] = let e : left ≡ left - 0 = omega arith in e
last_left left (m ∷ ms) = last_left (left - m.gap) ms ∙ omega (arith, sum_by-cons (λ (g : Gapped). g.gap) m ms)

-- what the next thread fails with is what all fails with
start_fails : (threads : ℕ) (logs : List ThreadLog) (rest : List ℕ) (cause : LogCause) → IsStart threads logs → thread_at (length (start_bytes threads logs ++ rest)) threads (length logs) (accesses_of logs) rest ≡ Err cause → decoded (start_bytes threads logs ++ rest) ≡ Err cause
unfolding decoded body_at
start_fails threads logs rest cause start fails =
    let total = length (start_bytes threads logs ++ rest) in
    let good = are_threads threads 0 0 logs (omega (arith, start.accesses)) start.good in
    let number : 0 + length logs ≡ length logs = omega arith in
    let sum : 0 + accesses_of logs ≡ accesses_of logs = omega arith in
    let state : last next_thread (0, 0) logs ≡ (length logs, accesses_of logs) = last_thread 0 0 logs ∙ λ i. (number i, sum i) in
    let there : read_next total threads (last next_thread (0, 0) logs) rest ≡ Err cause = ap (λ (s : ℕ × ℕ). read_next total threads s rest) state ∙ fails in
    let all : threads_at total threads (flat_map thread_bytes logs ++ rest) ≡ Err cause =
    each_fails (read_next total threads) next_thread thread_bytes (GoodThread threads) (λ state log r g. thread_again total threads state.0 state.1 log r g) threads (0, 0) logs rest cause start.more good there in
    let allowed : (leb 1 threads && leb threads 16) ≡ true = rw (le-leb 1 threads (omega (arith, start.more)), le-leb threads 16 start.few) refl in
    rw (allowed, all) refl

pub accesses_cut : (threads : ℕ) (logs : List ThreadLog) (field : List ℕ) → IsStart threads logs → length field < 4 → decoded (start_bytes threads logs ++ field) ≡ Err (CutShort (length (start_bytes threads logs ++ field)))
unfolding thread_at
accesses_cut threads logs field start short = start_fails threads logs field (CutShort (length (start_bytes threads logs ++ field))) start (rw (lt-ltb (length field) 4 short) refl)

pub count_cut : (threads : ℕ) (logs : List ThreadLog) (accesses : ℕ) (field : List ℕ) → IsStart threads logs → accesses_of logs + accesses ≤ 262144 → length field < 4 → decoded (start_bytes threads logs ++ (to_be_bytes w32 accesses ++ field)) ≡ Err (CutShort (length (start_bytes threads logs ++ (to_be_bytes w32 accesses ++ field))))
unfolding thread_at
count_cut threads logs accesses field start sum short =
    let whole = to_be_bytes w32 accesses ++ field in
    let total = length (start_bytes threads logs ++ whole) in
    start_fails threads logs whole (CutShort total) start
    (rw (number_again w32 (2 ^ 32) wide32 total accesses field (omega (arith, sum)), le-leb (accesses_of logs + accesses) 262144 sum, lt-ltb (length field) 4 short) refl)

pub too_many : (threads : ℕ) (logs : List ThreadLog) (accesses : ℕ) (rest : List ℕ) → IsStart threads logs → accesses < 2 ^ 32 → 262144 < accesses_of logs + accesses → decoded (start_bytes threads logs ++ (to_be_bytes w32 accesses ++ rest)) ≡ Err TooManyAccesses
unfolding thread_at
too_many threads logs accesses rest start small many =
    let whole = to_be_bytes w32 accesses ++ rest in
    let total = length (start_bytes threads logs ++ whole) in
    start_fails threads logs whole TooManyAccesses start
    (rw (number_again w32 (2 ^ 32) wide32 total accesses rest small, lt-leb (accesses_of logs + accesses) 262144 many) refl)

-- what the next mark fails with is what all fails with
within_fails : (threads : ℕ) (logs : List ThreadLog) (accesses count : ℕ) (marks : List Gapped) (rest : List ℕ) (cause : LogCause) → IsWithin threads logs accesses count marks
    → mark_at (length (within_bytes threads logs accesses count marks ++ rest)) threads (length logs) (accesses - gaps_of marks) rest ≡ Err cause → decoded (within_bytes threads logs accesses count marks ++ rest) ≡ Err cause
unfolding thread_at
within_fails threads logs accesses count marks rest cause within fails =
    let thread = length logs in
    let small : accesses < 2 ^ 32 = omega (arith, within.sum) in
    let after_count = flat_map mark_bytes marks ++ rest in
    let after_accesses = to_be_bytes w32 count ++ after_count in
    let tail = to_be_bytes w32 accesses ++ after_accesses in
    let regrouped : within_bytes threads logs accesses count marks ++ rest ≡ start_bytes threads logs ++ tail =
    append_assoc (start_bytes threads logs) (to_be_bytes w32 accesses ++ to_be_bytes w32 count ++ flat_map mark_bytes marks) rest in
    let total = length (start_bytes threads logs ++ tail) in
    let here : mark_at total threads thread (accesses - gaps_of marks) rest ≡ Err cause = subst (λ (n : ℕ). mark_at n threads thread (accesses - gaps_of marks) rest ≡ Err cause) (ap (λ (x : List ℕ). length x) regrouped) fails in
    let there : mark_at total threads thread (last accesses_left accesses marks) rest ≡ Err cause = ap (λ (left : ℕ). mark_at total threads thread left rest) (last_left accesses marks) ∙ here in
    let good = all_small threads thread accesses marks small (are_marks threads thread accesses marks within.gaps within.good) in
    let all : marks_at total threads thread accesses count after_count ≡ Err cause =
    each_fails (mark_at total threads thread) accesses_left mark_bytes (GoodMark32 threads thread)
    (λ left m r g. mark_again_at total threads thread left m.gap m.mark r g.small g.good.gap g.good.mark) count accesses marks rest cause within.more good there in
    ap decoded regrouped
    ∙ start_fails threads logs tail cause within.start
    (rw (number_again w32 (2 ^ 32) wide32 total accesses after_accesses small, le-leb (accesses_of logs + accesses) 262144 within.sum, number_again w32 (2 ^ 32) wide32 total count after_count within.fits, all) refl)

pub mark_is_cut : (threads : ℕ) (logs : List ThreadLog) (accesses count : ℕ) (marks : List Gapped) (mark : List ℕ) → IsWithin threads logs accesses count marks → length mark < 14 → decoded (within_bytes threads logs accesses count marks ++ mark) ≡ Err (CutShort (length (within_bytes threads logs accesses count marks ++ mark)))
unfolding mark_at
mark_is_cut threads logs accesses count marks mark within short =
    within_fails threads logs accesses count marks mark (CutShort (length (within_bytes threads logs accesses count marks ++ mark))) within (rw (lt-leb 14 (length mark) short) refl)

-- a mark that was read, with the bytes after it
abbrev with_rest : List ℕ → Gapped → Result (Gapped × List ℕ) LogCause
with_rest rest mark = Ok (mark, rest)

-- what is judged of a mark is that it is bad at its place, or the mark
judged_either : (place threads thread left gap : ℕ) (o : Option Mark) (rest : List ℕ) → ((judged_mark place threads thread left gap o >>= with_rest rest) ≡ Err (BadMark place)) ⊎ ((x : Gapped × List ℕ) × ((judged_mark place threads thread left gap o >>= with_rest rest) ≡ Ok x))
judged_either place threads thread left gap None rest = inl refl
judged_either place threads thread left gap (Some mark) rest =
    let made : Gapped = record { gap = gap; mark = mark } in
    let read : Gapped × List ℕ = (made, rest) in
    elim (leb gap left && is_mark threads thread mark) as (λ b. ((cond b (Ok made) (Err (BadMark place)) >>= with_rest rest) ≡ Err (BadMark place)) ⊎ ((x : Gapped × List ℕ) × ((cond b (Ok made) (Err (BadMark place)) >>= with_rest rest) ≡ Ok x))) [
      | true ↦ inr (read, refl)
      | false ↦ inl refl
    ]

byte_there : (total : ℕ) (bytes : List ℕ) → 1 ≤ length bytes → (b : ℕ) × (r : List ℕ) × (byte_at total bytes ≡ Ok (b, r)) × (length bytes ≡ suc (length r))
byte_there total [] some = absurd (omega arith)
byte_there total (b ∷ r) some = (b, r, refl, refl)

number_there : (w : Width) (total : ℕ) (bytes : List ℕ) → byte_len w ≤ length bytes → number_at w total bytes ≡ Ok (from_be_bytes w (take (byte_len w) bytes), drop (byte_len w) bytes)
number_there w total bytes long = rw (le-ltb (length bytes) (byte_len w) long) refl

mark_either : (total threads thread left : ℕ) (bytes : List ℕ) → 14 ≤ length bytes → (mark_at total threads thread left bytes ≡ Err (BadMark (total - length bytes))) ⊎ ((x : Gapped × List ℕ) × (mark_at total threads thread left bytes ≡ Ok x))
unfolding mark_at
mark_either total threads thread left bytes long =
    let whole : leb 14 (length bytes) ≡ true = le-leb 14 (length bytes) long in
    let kind = byte_there total bytes (omega (arith, long)) in
    let gap = number_there w32 total kind.1 (omega (arith, long, kind.3)) in
    let named = byte_there total (drop 4 kind.1) (omega (arith, long, kind.3, length-drop 4 kind.1)) in
    let number = number_there w64 total named.1 (omega (arith, long, kind.3, named.3, length-drop 4 kind.1)) in
    let bytes_of_gap = from_be_bytes w32 (take 4 kind.1) in
    let value = from_be_bytes w64 (take 8 named.1) in
    rw (whole, kind.2, gap, named.2, number) (judged_either (total - length bytes) threads thread left bytes_of_gap (spelled_mark kind.0 named.0 value) (drop 8 named.1))

pub mark_is_bad : (threads : ℕ) (logs : List ThreadLog) (accesses count : ℕ) (marks : List Gapped) (mark rest : List ℕ) → IsInput (within_bytes threads logs accesses count marks ++ (mark ++ rest)) → IsWithin threads logs accesses count marks → length mark ≡ 14 → SpellsNoNext threads logs accesses marks mark → decoded (within_bytes threads logs accesses count marks ++ (mark ++ rest)) ≡ Err (BadMark (length (within_bytes threads logs accesses count marks)))
mark_is_bad threads logs accesses count marks mark rest is within len none =
    let front = within_bytes threads logs accesses count marks in
    let tail = mark ++ rest in
    let total = length (front ++ tail) in
    let left = accesses - gaps_of marks in
    let place : total - length tail ≡ length front = omega (arith, length-append front tail) in
    let tail_is : IsInput tail = subst IsInput (drop_at front tail (length front) refl) (IsInput-drop (length front) (front ++ tail) is) in
    elim (mark_either total threads (length logs) left tail (omega (arith, length-append mark rest, len))) [
      | inl bad ↦ within_fails threads logs accesses count marks tail (BadMark (length front)) within (bad ∙ ap (λ (n : ℕ). Err (BadMark n)) place)
      | inr read ↦
          let next = read.0.0 in
          let took = mark_takes total threads (length logs) left tail read.0 tail_is read.1 in
          let same : mark ≡ mark_bytes next = sym (take_at mark rest 14 len) ∙ ap (take 14) took.0.parts ∙ take_at (mark_bytes next) read.0.1 14 (length-bytes_of_mark next.gap next.mark) in
          absurd (none next took.1.mark (omega (arith, took.1.gap, within.gaps)) same)
    ]
