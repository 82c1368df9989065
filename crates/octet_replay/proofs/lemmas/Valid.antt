-- What the validity of a log tells of each of its threads.
use Rattle.std.proofs.Common.{◌≡◌, ℕ, ◌^◌, ◌<◌, ◌≤◌, inl, inr, List, [], length, Some, IsTrue, slice_get, ap, ◌∙◌, subst, arith}
use Rattle.std.proofs.lemmas.Bool.{cases_lt}
use Rattle.std.proofs.lemmas.List.{get_or_past}
use Rattle.std.proofs.lemmas.List.Sums.{get_or-le-sum_by}
use Rattle.std.proofs.lemmas.Option.{slice_get_within, get_or_from_slice_get}
use Rattle.octet_model.specs.declared.event.Mark.{Mark}
use Rattle.octet_model.specs.declared.limits.TheConstants.{MAX_ACCESSES}
use Rattle.octet_model.specs.declared.log.ThreadLog.{ThreadLog}
use Rattle.octet_model.specs.declared.log.Gapped.{Gapped}
use Rattle.octet_model.specs.Journals.{due_mark}
use Rattle.octet_model.specs.Log.{is_log}
use Rattle.octet_model.specs.Orders.{thread_log_of}
use Rattle.octet_model.specs.Validity.{IsMark}
use Rattle.octet_model.proofs.lemmas.Validity.{valid_log}
use Rattle.octet_replay.proofs.lemmas.EventsMade.{due_there}

-- a thread has no more accesses than all threads together may have
pub few_accesses : (log : List ThreadLog) → IsTrue (is_log log) → (t : ℕ) → (thread_log_of log t).accesses ≤ MAX_ACCESSES
few_accesses log valid t =
    elim (cases_lt t (length log)) [
      | inl below ↦ omega (arith, get_or-le-sum_by (λ (l : ThreadLog). l.accesses) log t (record { accesses = 0; marks = [] }) below, (valid_log log valid).accesses_of_all)
      | inr past ↦ omega (arith, ap (λ (l : ThreadLog). l.accesses) (get_or_past log t (record { accesses = 0; marks = [] }) past))
    ]

-- and its marks are counted in 32 bits
pub few_marks : (log : List ThreadLog) → IsTrue (is_log log) → (t : ℕ) → length (thread_log_of log t).marks < 2 ^ 32
few_marks log valid t =
    elim (cases_lt t (length log)) [
      | inl below ↦ omega (arith, ((valid_log log valid).each t below).few_marks)
      | inr past ↦ omega (arith, ap (λ (l : ThreadLog). length l.marks) (get_or_past log t (record { accesses = 0; marks = [] }) past))
    ]

-- a mark that is due is valid
pub due_is_valid : (log : List ThreadLog) → IsTrue (is_log log) → (t : ℕ) → t < length log → (marks gap : ℕ) (mark : Mark)
    → due_mark (slice_get (thread_log_of log t).marks marks) gap ≡ Some mark → IsMark (length log) t mark
due_is_valid log valid t within marks gap mark is =
    let own = (thread_log_of log t).marks in
    let there = due_there (slice_get own marks) gap mark is in
    let all = ((valid_log log valid).each t within).marks in
    let inside = slice_get_within own marks there.0 there.1 in
    let value = get_or_from_slice_get own marks there.0 there.0 there.1 in
    subst (λ (m : Mark). IsMark (length log) t m) (ap (λ (g : Gapped). g.mark) value ∙ there.2) (all marks there.0 inside)
