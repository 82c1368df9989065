-- A thread's log that is read is the one that was written, and what was written is read again.
use Rattle.std.proofs.Common.{◌≡◌, ℕ, suc, ◌+◌, ◌^◌, ◌<◌, ◌≤◌, ◌&&◌, true, leb, ltb, List, [], ◌∷◌, ◌++◌, length, Ok, refl, sym, ap, subst, ◌∙◌, append_assoc, arith}
use Rattle.std.specs.List.{flat_map, list_all}
use Rattle.std.specs.Int.{w32, to_be_bytes}
use Rattle.std.specs.Prelude.{sum_by}
use Rattle.std.proofs.lemmas.List.Sums.{sum_by-cons}
use Rattle.std.proofs.lemmas.Bool.{leb-true, le-leb, lt-ltb, ltb-true}
use Rattle.std.proofs.lemmas.List.{length-append}
use Rattle.octet_model.specs.declared.log.Gapped.{Gapped}
use Rattle.octet_model.specs.declared.log.ThreadLog.{ThreadLog}
use Rattle.octet_model.specs.Log.{is_mark, is_thread_log, are_thread_logs}
use Rattle.octet_model.specs.Texts.{mark_bytes, thread_bytes}
use Rattle.octet_log.specs.declared.cause.LogCause.TheVariants.{TooManyAccesses}
use Rattle.octet_log.specs.Judging.{◌>>=◌, wanted}
use Rattle.octet_log.specs.v1.Decoding.{number_at, marks_at, thread_at, threads_at}
use Rattle.octet_log.specs.Inputs.{IsInput}
use Rattle.octet_log.proofs.Valid.{and_first, and_second}
use Rattle.octet_log.proofs.Fields.{bind_ok, wanted_ok, ok_is, Takes, Takes-then, wide32, number_takes, number_again}
use Rattle.octet_log.proofs.Each.{AllGood, each_takes, each_again}
use Rattle.octet_log.proofs.version1.Marks.{GoodMarks, length-marks, marks_are, are_marks, marks_take, marks_again}
use Rattle.octet_log.proofs.version1.Loops.{read_next, next_thread}

-- a valid log of a thread, after threads with that many accesses
pub record GoodThread (threads : ℕ) (state : ℕ × ℕ) (log : ThreadLog) : Type 0 where
  pub sum : state.1 + log.accesses ≤ 262144
  pub valid : is_thread_log threads state.0 log ≡ true

few : (bytes rest : List ℕ) (marks : List Gapped) → IsInput bytes → Takes bytes (flat_map mark_bytes marks) rest → length marks < 2 ^ 31
few bytes rest marks is takes =
    let len : length bytes ≡ length (flat_map mark_bytes marks) + length rest = rw takes.parts (length-append (flat_map mark_bytes marks) rest) in
    omega (arith, len, length-marks marks, is.short)

valid_thread : (threads thread : ℕ) (log : ThreadLog) → length log.marks < 2 ^ 31 → GoodMarks threads thread log.accesses log.marks → is_thread_log threads thread log ≡ true
valid_thread threads thread log short good =
    let are = marks_are threads thread log.accesses log.marks good in
    rw (lt-ltb (length log.marks) (2 ^ 31) short, le-leb (sum_by (λ m. m.gap) log.marks) log.accesses are.0, are.1) refl

pub thread_takes : (total threads thread before : ℕ) (bytes : List ℕ) (x : ThreadLog × List ℕ) → IsInput bytes → thread_at total threads thread before bytes ≡ Ok x → Takes bytes (thread_bytes x.0) x.1 × GoodThread threads (thread, before) x.0
unfolding thread_at
thread_takes total threads thread before bytes x is e =
    let a = bind_ok (number_at w32 total bytes) (λ accesses. wanted (leb (before + accesses.0) 262144) TooManyAccesses >>= λ allowed. number_at w32 total accesses.1 >>= λ count. marks_at total threads thread accesses.0 count.0 count.1 >>= λ marks. Ok (record { accesses = accesses.0; marks = marks.0 }, marks.1)) x e in
    let w = wanted_ok (leb (before + a.0.0) 262144) TooManyAccesses (λ _. number_at w32 total a.0.1 >>= λ count. marks_at total threads thread a.0.0 count.0 count.1 >>= λ marks. Ok (record { accesses = a.0.0; marks = marks.0 }, marks.1)) x a.2 in
    let b = bind_ok (number_at w32 total a.0.1) (λ count. marks_at total threads thread a.0.0 count.0 count.1 >>= λ marks. Ok (record { accesses = a.0.0; marks = marks.0 }, marks.1)) x w.1 in
    let c = bind_ok (marks_at total threads thread a.0.0 b.0.0 b.0.1) (λ marks. Ok (record { accesses = a.0.0; marks = marks.0 }, marks.1)) x b.2 in
    let t0 = (number_takes w32 (2 ^ 32) wide32 total bytes a.0.0 a.0.1 is a.1).0 in
    let t1 = (number_takes w32 (2 ^ 32) wide32 total a.0.1 b.0.0 b.0.1 t0.rest_is b.1).0 in
    let t2 = marks_take total threads thread a.0.0 b.0.0 b.0.1 c.0 t1.rest_is c.1 in
    let e12 = Takes-then a.0.1 (to_be_bytes w32 b.0.0) b.0.1 (flat_map mark_bytes c.0.0) c.0.1 t1 t2.0 in
    let e02 = Takes-then bytes (to_be_bytes w32 a.0.0) a.0.1 (to_be_bytes w32 b.0.0 ++ flat_map mark_bytes c.0.0) c.0.1 t0 e12 in
    let whole : Takes bytes (to_be_bytes w32 a.0.0 ++ to_be_bytes w32 (length c.0.0) ++ flat_map mark_bytes c.0.0) c.0.1 =
    subst (λ (n : ℕ). Takes bytes (to_be_bytes w32 a.0.0 ++ to_be_bytes w32 n ++ flat_map mark_bytes c.0.0) c.0.1) (sym t2.1) e02 in
    let log : ThreadLog = record { accesses = a.0.0; marks = c.0.0 } in
    subst (λ (y : ThreadLog × List ℕ). Takes bytes (thread_bytes y.0) y.1 × GoodThread threads (thread, before) y.0) (ok_is (log, c.0.1) x c.2)
    (whole, record { sum = leb-true (before + a.0.0) 262144 w.0; valid = valid_thread threads thread log (few b.0.1 c.0.1 c.0.0 t1.rest_is t2.0) t2.2 })

-- what a good log of a thread comes to
pub record Parts (threads thread before : ℕ) (log : ThreadLog) : Type 0 where
  pub sum : leb (before + log.accesses) 262144 ≡ true
  pub small : log.accesses < 2 ^ 32
  pub few : length log.marks < 2 ^ 32
  pub marks : GoodMarks threads thread log.accesses log.marks

pub parts : (threads thread before : ℕ) (log : ThreadLog) → GoodThread threads (thread, before) log → Parts threads thread before log
parts threads thread before log good =
    let n = length log.marks in
    let gaps = sum_by (λ m. m.gap) log.marks in
    let all = list_all (λ m. is_mark threads thread m.mark) log.marks in
    let first : (ltb n (2 ^ 31) && leb gaps log.accesses) ≡ true = and_first (ltb n (2 ^ 31) && leb gaps log.accesses) all good.valid in
    let short : n < 2 ^ 31 = ltb-true n (2 ^ 31) (and_first (ltb n (2 ^ 31)) (leb gaps log.accesses) first) in
    let sum : gaps ≤ log.accesses = leb-true gaps log.accesses (and_second (ltb n (2 ^ 31)) (leb gaps log.accesses) first) in
    record {
      sum = le-leb (before + log.accesses) 262144 good.sum;
      small = omega (arith, good.sum);
      few = omega (arith, short);
      marks = are_marks threads thread log.accesses log.marks sum (and_second (ltb n (2 ^ 31) && leb gaps log.accesses) all good.valid);
    }

pub thread_again : (total threads thread before : ℕ) (log : ThreadLog) (rest : List ℕ) → GoodThread threads (thread, before) log → thread_at total threads thread before (thread_bytes log ++ rest) ≡ Ok (log, rest)
unfolding thread_at
thread_again total threads thread before log rest good =
    let p = parts threads thread before log good in
    let sum = p.sum in
    let regrouped : thread_bytes log ++ rest ≡ to_be_bytes w32 log.accesses ++ (to_be_bytes w32 (length log.marks) ++ (flat_map mark_bytes log.marks ++ rest)) =
    append_assoc (to_be_bytes w32 log.accesses) (to_be_bytes w32 (length log.marks) ++ flat_map mark_bytes log.marks) rest
    ∙ ap (λ (x : List ℕ). to_be_bytes w32 log.accesses ++ x) (append_assoc (to_be_bytes w32 (length log.marks)) (flat_map mark_bytes log.marks) rest) in
    ap (thread_at total threads thread before) regrouped
    ∙ rw (number_again w32 (2 ^ 32) wide32 total log.accesses (to_be_bytes w32 (length log.marks) ++ (flat_map mark_bytes log.marks ++ rest)) p.small, sum, number_again w32 (2 ^ 32) wide32 total (length log.marks) (flat_map mark_bytes log.marks ++ rest) p.few, marks_again total threads thread log.accesses log.marks rest p.small p.marks) refl

abbrev pub GoodThreads : ℕ → ℕ → ℕ → List ThreadLog → Type 0
GoodThreads threads thread before logs = AllGood (GoodThread threads) next_thread (thread, before) logs

pub threads_are : (threads thread before : ℕ) (logs : List ThreadLog) → before ≤ 262144 → GoodThreads threads thread before logs → (before + sum_by (λ log. log.accesses) logs ≤ 262144) × (are_thread_logs threads thread logs ≡ true)
threads_are threads thread before [] small good = (omega (arith, small), refl)
threads_are threads thread before (log ∷ logs) small good =
    let rest = threads_are threads (suc thread) (before + log.accesses) logs good.0.sum good.1 in
    (rw (sum_by-cons (λ log. log.accesses) log logs) (omega (arith, rest.0)), rw good.0.valid rest.1)

pub are_threads : (threads thread before : ℕ) (logs : List ThreadLog) → before + sum_by (λ log. log.accesses) logs ≤ 262144 → are_thread_logs threads thread logs ≡ true → GoodThreads threads thread before logs
are_threads threads thread before [] sum all = tt
are_threads threads thread before (log ∷ logs) sum all =
    let more : before + (log.accesses + sum_by (λ log. log.accesses) logs) ≤ 262144 = rw (sum_by-cons (λ log. log.accesses) log logs) at sum in
    (record { sum = omega (arith, more); valid = and_first _ _ all }, are_threads threads (suc thread) (before + log.accesses) logs (omega (arith, more)) (and_second _ _ all))

pub threads_take : (total threads : ℕ) (bytes : List ℕ) (x : List ThreadLog × List ℕ) → IsInput bytes → threads_at total threads bytes ≡ Ok x → Takes bytes (flat_map thread_bytes x.0) x.1 × (length x.0 ≡ threads) × GoodThreads threads 0 0 x.0
threads_take total threads bytes x is e =
    each_takes (read_next total threads) next_thread thread_bytes (GoodThread threads) (λ state b y. thread_takes total threads state.0 state.1 b y) threads (0, 0) bytes x is e

pub threads_again : (total : ℕ) (logs : List ThreadLog) (rest : List ℕ) → GoodThreads (length logs) 0 0 logs → threads_at total (length logs) (flat_map thread_bytes logs ++ rest) ≡ Ok (logs, rest)
threads_again total logs rest good =
    each_again (read_next total (length logs)) next_thread thread_bytes (GoodThread (length logs)) (λ state log r. thread_again total (length logs) state.0 state.1 log r) (0, 0) logs rest good
