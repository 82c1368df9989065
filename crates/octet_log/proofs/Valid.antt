-- What the type of a log says of its threads.
use Rattle.std.proofs.Common.{◌≡◌, ◌<◌, ◌^◌, ◌+◌, ◌&&◌, Bool, true, false, ℕ, zero, suc, List, [], ◌∷◌, length, get_or, arith, refl, add-zero, zero-add, ap, sym, ◌∙◌, ◌≢◌, ◌⊎◌, ◌-◌, ◌≤◌, leb, inl, inr}
use Rattle.std.proofs.lemmas.Bool.{false≢true, ltb-true, le-leb, lt-leb}
use Rattle.octet_model.specs.declared.log.ThreadLog.{ThreadLog}
use Rattle.octet_model.specs.declared.log.Log.{Log}
use Rattle.octet_model.specs.Log.{is_thread_log, are_thread_logs}

pub and_first : (a b : Bool) → (a && b) ≡ true → a ≡ true
and_first true b h = refl
and_first false b h = absurd (false≢true h)

pub and_second : (a b : Bool) → (a && b) ≡ true → b ≡ true
and_second true b h = h
and_second false b h = absurd (false≢true h)

pub and_both : (a b : Bool) → a ≡ true → b ≡ true → (a && b) ≡ true
and_both true true h k = refl
and_both true false h k = k
and_both false b h k = h

-- each thread of a list of valid ones is valid
each_valid : (threads thread : ℕ) (logs : List ThreadLog) (i : ℕ) (d : ThreadLog) → i < length logs → are_thread_logs threads thread logs ≡ true → is_thread_log threads (thread + i) (get_or logs i d) ≡ true
each_valid n t [] i d l h = absurd (omega (arith, l))
each_valid n t (x ∷ xs) zero d l h = rw (add-zero t) (and_first _ _ h)
each_valid n t (x ∷ xs) (suc i) d l h = let e : t + suc i ≡ suc t + i = omega arith in rw e (each_valid n (suc t) xs i d (omega (arith, l)) (and_second _ _ h))

few_marks : (threads thread : ℕ) (log : ThreadLog) → is_thread_log threads thread log ≡ true → length log.marks < 2 ^ 31
few_marks n t log h = ltb-true (length log.marks) (2 ^ 31) (and_first _ _ (and_first _ _ h))

-- a thread of a log has few marks
pub marks_at : (log : Log) (i : ℕ) (thread : ThreadLog) → i < length log.threads → thread ≡ get_or log.threads i thread → length thread.marks < 2 ^ 31
marks_at log i thread within is =
    few_marks (length log.threads) i thread
    (ap (is_thread_log (length log.threads) i) is ∙ ap (λ t. is_thread_log (length log.threads) t (get_or log.threads i thread)) (sym (zero-add i))
    ∙ each_valid (length log.threads) 0 log.threads i thread within (and_second _ _ log.valid))

pub not_allowed : (threads : ℕ) → (threads ≡ 0) ⊎ (16 < threads) → (leb 1 threads && leb threads 16) ≡ false
not_allowed threads (inl none) = rw none refl
not_allowed zero (inr many) = refl
not_allowed (suc threads) (inr many) = rw (lt-leb (suc threads) 16 many) (elim (leb 1 (suc threads)) as (λ b. (b && false) ≡ false) [ true ↦ refl | false ↦ refl ])

pub allowed : (threads : ℕ) → 1 ≤ threads → threads ≤ 16 → (leb 1 threads && leb threads 16) ≡ true
allowed threads low high = rw (le-leb 1 threads low, le-leb threads 16 high) refl
