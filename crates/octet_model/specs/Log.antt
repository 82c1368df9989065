-- Which logs of threads make a valid log, as a test that computes.
use Rattle.std.specs.Prelude.{ℕ, suc, ◌^◌, ◌&&◌, ◌==◌, List, [], ◌∷◌, length, Bool, true, nat_le, nat_lt, not, sum_by}
use Rattle.std.specs.List.{list_all}
use Rattle.octet_model.specs.declared.event.Mark.{Mark}
use Rattle.octet_model.specs.declared.event.Mark.TheVariants.{Join, Draw, Fence}
use Rattle.octet_model.specs.declared.limits.TheConstants.{MAX_ACCESSES, MAX_THREADS}
use Rattle.octet_model.specs.declared.log.ThreadLog.{ThreadLog}

-- the test whether a mark of a thread is valid, among a number of threads.
-- A Join names another of them. A Draw or a Fence has a number of at least 1
abbrev pub is_mark : ℕ → ℕ → Mark → Bool
is_mark threads thread (Join from upto) = nat_lt from threads && not (from == thread) && nat_lt upto (2 ^ 64)
is_mark threads thread (Draw number) = nat_le 1 number && nat_lt number (2 ^ 64)
is_mark threads thread (Fence number) = nat_le 1 number && nat_lt number (2 ^ 64)

-- the test whether the log of a thread is valid.
-- Its marks are valid and fewer than 2 ^ 31, and their gaps sum to at most its accesses
abbrev pub is_thread_log : ℕ → ℕ → ThreadLog → Bool
is_thread_log threads thread log =
    nat_lt (length log.marks) (2 ^ 31)
    && nat_le (sum_by (λ m. m.gap) log.marks) log.accesses
    && list_all (λ m. is_mark threads thread m.mark) log.marks

-- the test whether the logs of the threads from a number on are valid
abbrev pub are_thread_logs : ℕ → ℕ → List ThreadLog → Bool
are_thread_logs threads thread [] = true
are_thread_logs threads thread (log ∷ logs) = is_thread_log threads thread log && are_thread_logs threads (suc thread) logs

-- the test whether a log is valid
abbrev pub is_log : List ThreadLog → Bool
is_log logs =
    nat_le 1 (length logs) && nat_le (length logs) MAX_THREADS
    && nat_le (sum_by (λ log. log.accesses) logs) MAX_ACCESSES
    && are_thread_logs (length logs) 0 logs
