-- The log of a journal that was seen in a sound state is valid, and has few marks.
use Rattle.std.proofs.Common.{◌≡◌, ℕ, suc, ◌+◌, ◌*◌, ◌^◌, ◌<◌, ◌≤◌, true, List, [], ◌∷◌, length, Some, IsTrue, slice_get, sum_by, refl, sym, ap, subst, arith}
use Rattle.std.proofs.lemmas.Bool.{and_from, le-leb, lt-ltb}
use Rattle.std.proofs.lemmas.List.Sums.{sum_by-cons}
use Rattle.octet_model.specs.declared.event.Event.{Event}
use Rattle.octet_model.specs.declared.event.Event.TheVariants.{Marked}
use Rattle.octet_model.specs.declared.event.Mark.{Mark}
use Rattle.octet_model.specs.declared.log.ThreadLog.{ThreadLog}
use Rattle.octet_model.specs.declared.script.Script.{Script}
use Rattle.octet_model.specs.Log.{is_mark, is_thread_log, are_thread_logs, is_log}
use Rattle.octet_model.specs.Machine.{Journals, journal_of}
use Rattle.octet_model.specs.Journals.{access_count, gapped_marks, log_of, log_of_journal}
use Rattle.octet_model.proofs.lemmas.Splits.{length-gapped_marks, length_parts}
use Rattle.octet_model.proofs.lemmas.Validity.{valid_script}
use Rattle.octet_model.proofs.lemmas.ThreadLogs.{gaps_in_all, marks_valid, thread_logs_valid}
use Rattle.octet_log.specs.v2.Pieces.{marks_in}
use Rattle.octet_state.specs.State.{ProtocolState}
use Rattle.octet_state.proofs.lemmas.Widths.{few_marks}
use Rattle.octet_rule.specs.Rule.{IsSeenBy}
use Rattle.octet_rule.specs.Views.{SeatView}

-- what is known of the journal of one of so many threads
pub record IsGoodJournal (threads thread : ℕ) (journal : List Event) : Type 0 where
  pub valid : is_thread_log threads thread (log_of_journal journal) ≡ true
  pub few : length (gapped_marks 0 journal) ≤ 15 * access_count journal + 15

pub seen_good : (v : SeatView) (state : ProtocolState) → IsSeenBy v state → access_count v.journal ≤ 262144 → IsGoodJournal v.threads v.number v.journal
seen_good v state seen most =
    let journal = v.journal in
    let marks = gapped_marks 0 journal in
    let within = few_marks state v.number seen.sound in
    let same : journal_of state.journals v.number ≡ journal = seen.has_made in
    let few : length marks ≤ 15 * access_count journal + 15 =
    omega (arith, length-gapped_marks 0 journal, length_parts journal, within, ap (λ (j : List Event). length j) same, ap access_count same) in
    let named : (k : ℕ) (mark : Mark) → slice_get journal k ≡ Some (Marked mark) → IsTrue (is_mark v.threads v.number mark) = λ k mark is.
    subst (λ (n : ℕ). IsTrue (is_mark n v.number mark)) seen.as_many
    (seen.sound.positions.marks (record { thread = v.number; event = k }) mark (subst (λ (j : List Event). slice_get j k ≡ Some (Marked mark)) (sym same) is)) in record {
      valid = and_from _ _
          (and_from _ _ (lt-ltb (length marks) (2 ^ 31) (omega (arith, few, most))) (le-leb (sum_by (λ m. m.gap) marks) (access_count journal) (omega (arith, gaps_in_all 0 journal))))
          (marks_valid v.threads v.number 0 journal named);
      few = few;
    }

abbrev AreGoodFrom : ℕ → ℕ → Journals → Type 0
AreGoodFrom threads first js = (u : ℕ) → u < length js → IsGoodJournal threads (first + u) (journal_of js u)

few_in_all : (threads first : ℕ) (js : Journals) → AreGoodFrom threads first js → marks_in (log_of js) ≤ 15 * sum_by (λ log. log.accesses) (log_of js) + 15 * length js
few_in_all threads first [] each = omega arith
few_in_all threads first (journal ∷ js) each =
    omega (
      arith,
      (each 0 (omega arith)).few,
      sum_by-cons (λ (log : ThreadLog). length log.marks) (log_of_journal journal) (log_of js),
      sum_by-cons (λ (log : ThreadLog). log.accesses) (log_of_journal journal) (log_of js),
      few_in_all threads (suc first) js (λ u less. let step : first + suc u ≡ suc first + u = omega arith in subst (λ (n : ℕ). IsGoodJournal threads n (journal_of js u)) step (each (suc u) (omega (arith, less)))),
    )

accesses_in_all : (fuel : ℕ) (js : Journals) → ((u : ℕ) → access_count (journal_of js u) ≤ fuel) → sum_by (λ log. log.accesses) (log_of js) ≤ length js * fuel
accesses_in_all fuel [] each = omega arith
accesses_in_all fuel (journal ∷ js) each =
    omega (arith, each 0, sum_by-cons (λ (log : ThreadLog). log.accesses) (log_of_journal journal) (log_of js), accesses_in_all fuel js (λ u. each (suc u)))

pub length_logs : (js : Journals) → length (log_of js) ≡ length js
length_logs [] = refl
length_logs (journal ∷ js) = ap suc (length_logs js)

-- the log of a script's journals, each of which is good and within the fuel
module _ (script : Script) (js : Journals) (as_many : length js ≡ length script.threads) (fuelled : (u : ℕ) → access_count (journal_of js u) ≤ script.fuel) (each : (u : ℕ) → u < length js → IsGoodJournal (length js) u (journal_of js u)) where
  good : AreGoodFrom (length js) 0 js
  good u less = subst (λ (n : ℕ). IsGoodJournal (length js) n (journal_of js u)) (omega arith) (each u less)

  total : sum_by (λ log. log.accesses) (log_of js) ≤ 262144
  total =
      let bound = valid_script script.fuel script.objects script.threads script.valid in
      let sum : sum_by (λ log. log.accesses) (log_of js) ≤ length script.threads * script.fuel = subst (λ (n : ℕ). sum_by (λ log. log.accesses) (log_of js) ≤ n * script.fuel) as_many (accesses_in_all script.fuel js fuelled) in
      omega (arith, sum, bound.fuel_of_all)

  pub journals_valid : IsTrue (is_log (log_of js))
  journals_valid =
      let logs = log_of js in
      let bound = valid_script script.fuel script.objects script.threads script.valid in
      and_from _ _
      (and_from _ _
      (and_from _ _ (le-leb 1 (length logs) (omega (arith, length_logs js, as_many, bound.some_threads))) (le-leb (length logs) 16 (omega (arith, length_logs js, as_many, bound.most_threads))))
      (le-leb (sum_by (λ log. log.accesses) logs) 262144 total))
      (subst (λ (n : ℕ). are_thread_logs n 0 logs ≡ true) (sym (length_logs js)) (thread_logs_valid (length js) 0 js (λ u less. (good u less).valid)))

  pub journals_few : marks_in (log_of js) ≤ 4793490
  journals_few =
      let bound = valid_script script.fuel script.objects script.threads script.valid in
      omega (arith, few_in_all (length js) 0 js good, total, as_many, bound.most_threads)
