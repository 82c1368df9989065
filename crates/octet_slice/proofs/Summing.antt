-- A cut of more threads, and a sum over more threads.
use Rattle.std.proofs.Common.{◌≡◌, ℕ, ◌+◌, ◌^◌, ◌<◌, List, [], ◌∷◌, ◌++◌, length, take, get_or, sum_by, refl, sym, ap, ◌∙◌, arith}
use Rattle.std.proofs.lemmas.List.{take_more, get_or_default, length-take}
use Rattle.std.proofs.lemmas.List.Sums.{sum_by_more}
use Rattle.octet_model.specs.declared.log.ThreadLog.{ThreadLog}
use Rattle.octet_model.specs.Orders.{thread_log_of}
use Rattle.octet_slice.specs.declared.gathering.Reach.{Reach}
use Rattle.octet_slice.specs.code.Cutting.{cut_log, cut_thread}
use Rattle.octet_slice.specs.Slice.{events_of}

cut_two : (logs : List ThreadLog) (threads : List Reach) (log : ThreadLog) (reach : Reach) → length logs ≡ length threads → cut_log (logs ++ log ∷ []) (threads ++ reach ∷ []) ≡ cut_log logs threads ++ cut_thread log reach ∷ []
cut_two [] [] log reach many = refl
cut_two [] (r ∷ threads) log reach many = absurd (omega arith)
cut_two (l ∷ logs) [] log reach many = absurd (omega arith)
cut_two (l ∷ logs) (r ∷ threads) log reach many = ap (λ (rest : List ThreadLog). cut_thread l r ∷ rest) (cut_two logs threads log reach (omega arith))

-- one thread more of a log is cut
pub cut_more : (logs : List ThreadLog) (threads : List Reach) (i : ℕ) (cut after : List ThreadLog) (log one : ThreadLog) (reach d : Reach) → length threads ≡ length logs → i < length logs
    → log ≡ get_or logs i log → reach ≡ get_or threads i d → cut ≡ cut_log (take i logs) (take i threads) → one ≡ cut_thread log reach → after ≡ cut ++ one ∷ []
    → after ≡ cut_log (take (i + 1) logs) (take (i + 1) threads)
cut_more logs threads i cut after log one reach d many lt log_is reach_is cut_is one_is after_is =
    after_is ∙ ap (λ (c : List ThreadLog). c ++ one ∷ []) cut_is ∙ ap (λ (x : ThreadLog). cut_log (take i logs) (take i threads) ++ x ∷ []) one_is
    ∙ sym (cut_two (take i logs) (take i threads) log reach (omega (arith, length-take i logs, length-take i threads, many)))
    ∙ ap (λ (x : ThreadLog). cut_log (take i logs ++ x ∷ []) (take i threads ++ reach ∷ [])) log_is
    ∙ ap (λ (x : Reach). cut_log (take i logs ++ get_or logs i log ∷ []) (take i threads ++ x ∷ [])) reach_is
    ∙ ap (λ (x : List ThreadLog). cut_log x (take i threads ++ get_or threads i d ∷ [])) (sym (take_more logs i log lt))
    ∙ ap (λ (x : List Reach). cut_log (take (i + 1) logs) x) (sym (take_more threads i d (omega (arith, lt, many))))

-- one thread more is counted
pub sum_more : (logs : List ThreadLog) (i all of_log : ℕ) (log : ThreadLog) → i < length logs → log ≡ get_or logs i log → all ≡ sum_by events_of (take i logs) → of_log ≡ events_of log
    → all + of_log ≡ sum_by events_of (take (i + 1) logs)
sum_more logs i all of_log log lt is all_is one_is = omega (arith, sum_by_more events_of logs i log lt, all_is, one_is, ap events_of is)

pub few_events : (logs : List ThreadLog) (i : ℕ) (log : ThreadLog) → i < length logs → log ≡ get_or logs i log → ((thread : ℕ) → thread < length logs → events_of (thread_log_of logs thread) < 2 ^ 33) → events_of log < 2 ^ 33
few_events logs i log lt is each = omega (arith, each i lt, ap events_of (is ∙ get_or_default logs i log (record { accesses = 0; marks = [] }) lt))
