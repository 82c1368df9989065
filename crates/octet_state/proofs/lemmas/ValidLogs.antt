-- The log of the journals of a sound state is valid, where no thread has more accesses than its script's fuel.
use Rattle.std.proofs.Common.{◌≡◌, ℕ, ◌+◌, ◌*◌, ◌<◌, ◌≤◌, ◌^◌, true, [], length, get_or, All, IsTrue, sum_by, sym, ap, ◌∙◌, subst, arith}
use Rattle.std.proofs.lemmas.Bool.{and_from, le-leb, lt-ltb}
use Rattle.std.proofs.lemmas.List.{length-map, get_or-map}
use Rattle.std.proofs.lemmas.List.Sums.{sum_by-le}
use Rattle.octet_model.specs.declared.log.ThreadLog.{ThreadLog}
use Rattle.octet_model.specs.declared.script.Script.{Script}
use Rattle.octet_model.specs.Log.{is_mark, is_thread_log, is_log}
use Rattle.octet_model.specs.Machine.{Journals, journal_of}
use Rattle.octet_model.specs.Journals.{access_count, gapped_marks, log_of, log_of_journal}
use Rattle.octet_model.proofs.lemmas.Splits.{length-gapped_marks, length_parts}
use Rattle.octet_model.proofs.lemmas.Validity.{valid_script}
use Rattle.octet_model.proofs.lemmas.ThreadLogs.{gaps_in_all, marks_valid, thread_logs_valid}
use Rattle.octet_state.specs.State.{ProtocolState}
use Rattle.octet_state.specs.Soundness.{IsSound}
use Rattle.octet_state.proofs.lemmas.Widths.{few_marks}

module _ (script : Script) (s : ProtocolState) (sound : IsSound s) (as_many : length s.journals ≡ length script.threads) (fuelled : (t : ℕ) → access_count (journal_of s.journals t) ≤ script.fuel) where
  abbrev js : Journals
  js = s.journals

  thread_log_valid : (u : ℕ) → is_thread_log (length js) u (log_of_journal (journal_of js u)) ≡ true
  thread_log_valid u =
      let journal = journal_of js u in
      let marks = gapped_marks 0 journal in
      let small = (valid_script script.fuel script.objects script.threads script.valid).most_fuel in
      let within = few_marks s u sound in
      let f = fuelled u in
      let few : length marks < 2 ^ 31 = omega (arith, length-gapped_marks 0 journal, length_parts journal) in
      and_from _ _
      (and_from _ _ (lt-ltb (length marks) (2 ^ 31) few) (le-leb (sum_by (λ m. m.gap) marks) (access_count journal) (omega (arith, gaps_in_all 0 journal))))
      (marks_valid (length js) u 0 journal (λ k mark is.
      subst (λ (n : ℕ). IsTrue (is_mark n u mark)) (sym sound.form.journals) (sound.positions.marks (record { thread = u; event = k }) mark is)))

  pub log_valid : IsTrue (is_log (log_of js))
  log_valid =
      let logs = log_of js in
      let bound = valid_script script.fuel script.objects script.threads script.valid in
      let many : length logs ≡ length script.threads = length-map js log_of_journal ∙ as_many in
      let each : All (λ (log : ThreadLog). log.accesses ≤ script.fuel) logs = λ k d lt.
      let at_k : get_or logs k d ≡ log_of_journal (journal_of js k) = get_or-map log_of_journal js k [] d (omega (arith, length-map js log_of_journal)) in
      let f = fuelled k in
      omega (arith, ap (λ (log : ThreadLog). log.accesses) at_k) in
      let sum : sum_by (λ log. log.accesses) logs ≤ length script.threads * script.fuel = subst (λ (n : ℕ). sum_by (λ log. log.accesses) logs ≤ n * script.fuel) many (sum_by-le (λ (log : ThreadLog). log.accesses) script.fuel logs each) in
      let total : sum_by (λ log. log.accesses) logs ≤ 262144 = omega (arith, bound.fuel_of_all) in
      and_from _ _
      (and_from _ _
      (and_from _ _ (le-leb 1 (length logs) (omega (arith, bound.some_threads))) (le-leb (length logs) 16 (omega (arith, bound.most_threads))))
      (le-leb (sum_by (λ log. log.accesses) logs) 262144 total))
      (thread_logs_valid (length logs) 0 js (λ u less.
      subst (λ (n : ℕ). is_thread_log n (0 + u) (log_of_journal (journal_of js u)) ≡ true) (sym (length-map js log_of_journal))
      (ap (λ (t : ℕ). is_thread_log (length js) t (log_of_journal (journal_of js u))) (omega arith) ∙ thread_log_valid u)))
