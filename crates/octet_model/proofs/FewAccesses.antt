-- No journal of a valid log has more accesses than 32 bits count.
use Rattle.std.proofs.Common.{ℕ, zero, suc, ◌<◌, ◌≤◌, ◌^◌, [], ◌∷◌, IsTrue, arith}
use Rattle.std.specs.List.{sum_by}
use Rattle.std.proofs.lemmas.List.Sums.{sum_by-cons}
use Rattle.octet_model.specs.declared.log.ThreadLog.{ThreadLog}
use Rattle.octet_model.specs.Log.{is_log}
use Rattle.octet_model.specs.Machine.{Journals, journal_of}
use Rattle.octet_model.specs.Journals.{access_count, log_of, log_of_journal}
use Rattle.octet_model.specs.Validity.{IsValidLog}
use Rattle.octet_model.proofs.lemmas.Validity.{valid_log}

no_more_than_all : (journals : Journals) (thread : ℕ) → access_count (journal_of journals thread) ≤ sum_by (λ log. log.accesses) (log_of journals)
no_more_than_all [] thread = omega arith
no_more_than_all (journal ∷ journals) zero = omega (arith, sum_by-cons (λ (log : ThreadLog). log.accesses) (log_of_journal journal) (log_of journals))
no_more_than_all (journal ∷ journals) (suc thread) = omega (arith, sum_by-cons (λ (log : ThreadLog). log.accesses) (log_of_journal journal) (log_of journals), no_more_than_all journals thread)

pub few_accesses : (journals : Journals) → IsTrue (is_log (log_of journals)) → (thread : ℕ) → access_count (journal_of journals thread) < 2 ^ 32
few_accesses journals valid thread =
    let limits : IsValidLog (log_of journals) = valid_log (log_of journals) valid in
    omega (arith, limits.accesses_of_all, no_more_than_all journals thread)
