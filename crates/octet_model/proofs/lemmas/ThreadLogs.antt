-- The log of journals is valid where each of their marks is.
use Rattle.std.proofs.Common.{◌≡◌, ℕ, suc, ◌+◌, ◌<◌, ◌≤◌, true, List, [], ◌∷◌, length, Some, IsTrue, slice_get, sum_by, refl, ap, ◌∙◌, arith}
use Rattle.std.specs.List.{list_all}
use Rattle.std.proofs.lemmas.Bool.{and_from}
use Rattle.std.proofs.lemmas.List.Sums.{sum_by-cons}
use Rattle.octet_model.specs.declared.event.Event.{Event}
use Rattle.octet_model.specs.declared.event.Event.TheVariants.{Marked}
use Rattle.octet_model.specs.declared.event.Mark.{Mark}
use Rattle.octet_model.specs.declared.log.Gapped.{Gapped}
use Rattle.octet_model.specs.Log.{is_mark, is_thread_log, are_thread_logs}
use Rattle.octet_model.specs.Machine.{Journals, journal_of}
use Rattle.octet_model.specs.Journals.{access_count, gapped_marks, log_of, log_of_journal}

-- the gaps of marks sum to at most the accesses
pub gaps_in_all : (before : ℕ) (journal : List Event) → sum_by (λ m. m.gap) (gapped_marks before journal) ≤ before + access_count journal
gaps_in_all before [] = omega arith
gaps_in_all before (Marked mark ∷ journal) = omega (arith, sum_by-cons (λ (m : Gapped). m.gap) (record { gap = before; mark = mark }) (gapped_marks 0 journal), gaps_in_all 0 journal)
gaps_in_all before (access ∷ journal) = omega (arith, gaps_in_all (suc before) journal)

pub marks_valid : (threads thread before : ℕ) (journal : List Event) → ((k : ℕ) (mark : Mark) → slice_get journal k ≡ Some (Marked mark) → IsTrue (is_mark threads thread mark)) → list_all (λ m. is_mark threads thread m.mark) (gapped_marks before journal) ≡ true
marks_valid threads thread before [] valid = refl
marks_valid threads thread before (Marked mark ∷ journal) valid = and_from _ _ (valid 0 mark refl) (marks_valid threads thread 0 journal (λ k other is. valid (suc k) other is))
marks_valid threads thread before (access ∷ journal) valid = marks_valid threads thread (suc before) journal (λ k mark is. valid (suc k) mark is)

pub thread_logs_valid : (threads first : ℕ) (js : Journals) → ((u : ℕ) → u < length js → is_thread_log threads (first + u) (log_of_journal (journal_of js u)) ≡ true) → are_thread_logs threads first (log_of js) ≡ true
thread_logs_valid threads first [] each = refl
thread_logs_valid threads first (journal ∷ js) each =
    and_from _ _ (ap (λ (u : ℕ). is_thread_log threads u (log_of_journal journal)) (omega arith) ∙ each 0 (omega arith))
    (thread_logs_valid threads (suc first) js (λ u less. let step : suc first + u ≡ first + suc u = omega arith in ap (λ (n : ℕ). is_thread_log threads n (log_of_journal (journal_of js u))) step ∙ each (suc u) (omega (arith, less))))
