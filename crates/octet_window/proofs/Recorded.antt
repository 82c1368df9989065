-- A run in order and the programs of its journals are a faithful recording.
use Rattle.std.proofs.Common.{◌≡◌, ℕ, suc, ◌+◌, ◌*◌, ◌<◌, ◌≤◌, ◌^◌, inl, Bool, true, false, not, ◌==◌, List, [], ◌∷◌, ◌++◌, length, map, take, get_or, All, Some, IsTrue, slice_get, sum_by, refl, sym, ap, ◌∙◌, subst, arith, length-append}
use Rattle.std.proofs.lemmas.Bool.{and_from, le-leb, lt-ltb, eqb-true}
use Rattle.std.proofs.lemmas.List.{length-map, get_or-map}
use Rattle.std.proofs.lemmas.List.Sums.{sum_by-le}
use Rattle.octet_model.specs.declared.command.Command.{Command}
use Rattle.octet_model.specs.declared.event.Event.{Event}
use Rattle.octet_model.specs.declared.event.Event.TheVariants.{Marked}
use Rattle.octet_model.specs.declared.event.Mark.{Mark}
use Rattle.octet_model.specs.declared.event.Mark.TheVariants.{Join, Draw, Fence}
use Rattle.octet_model.specs.declared.log.ThreadLog.{ThreadLog}
use Rattle.octet_model.specs.declared.outcome.End.{End}
use Rattle.octet_model.specs.declared.outcome.End.TheVariants.{Done}
use Rattle.octet_model.specs.declared.script.Script.{Script}
use Rattle.octet_model.specs.Frugal.{marks_since, IsFrugal}
use Rattle.octet_model.specs.HappensBefore.{object_of, IsOrdered}
use Rattle.octet_model.specs.Log.{is_mark, is_thread_log, is_log}
use Rattle.octet_model.specs.Machine.{Journals, journal_of, PlainState}
use Rattle.octet_model.specs.Journals.{access_count, mark_count, gapped_marks, log_of, log_of_journal}
use Rattle.octet_model.specs.Orders.{commands_of, end_of, ends_of, journals_after, plan_of, values_read, FitsScript, IsFaithful, IsLawfulOrder}
use Rattle.octet_model.specs.Plays.{IsOneHistory, lowest_play}
use Rattle.octet_model.specs.Plans as plans
use Rattle.octet_model.specs.Thread.{demanded, configuration_after, starting_configuration, ToEnd}
use Rattle.octet_model.specs.Validity.{IsMark, IsValidScript}
use Rattle.octet_model.proofs.lemmas.Growth.{faithful_from_history, order_from_play}
use Rattle.octet_model.proofs.lemmas.Fronts.{one_end}
use Rattle.octet_model.proofs.lemmas.Splits.{length-gapped_marks}
use Rattle.octet_model.proofs.lemmas.Validity.{valid_script}
use Rattle.octet_model.proofs.lemmas.ThreadLogs.{gaps_in_all, marks_valid, thread_logs_valid}
use Rattle.octet_recorder.specs.Programs.{FitsAll}
use Rattle.octet_recorder.proofs.lemmas.Programs.{program_fits, program_long}
use Rattle.octet_window.specs.Ordering.{place, Parts, IsAtRest}
use Rattle.octet_window.specs.Recorded.{HasPrograms, all_done}

-- where few marks stand before each access, a journal has few marks
abbrev AreFew : List Mark → List Event → Type 0
AreFew marks journal = (event object : ℕ) (e : Event) → slice_get journal event ≡ Some e → object_of e ≡ Some object → length (marks_since marks (take event journal)) ≤ 15

marks_are_few : (marks : List Mark) (journal : List Event) → AreFew marks journal → marks_since marks journal ≡ [] → length marks + mark_count journal ≤ 15 * access_count journal
marks_are_few marks [] few none = omega (arith, ap (λ (l : List Mark). length l) none)
marks_are_few marks (Marked mark ∷ journal) few none =
    omega (arith, length-append marks (mark ∷ []), marks_are_few (marks ++ mark ∷ []) journal (λ event o e at is. few (suc event) o e at is) none)
marks_are_few marks (access ∷ journal) few none =
    let here : length marks ≤ 15 = few 0 _ access refl refl in
    omega (arith, here, marks_are_few [] journal (λ event o e at is. few (suc event) o e at is) none)

differ : (a b : ℕ) → (a ≡ b → ⊥) → IsTrue (not (a == b))
differ a b apart = go (a == b) refl
  where
    go : (t : Bool) → (a == b) ≡ t → IsTrue (not t)
    go true is = absurd (apart (eqb-true a b is))
    go false is = refl

mark_test : (threads thread : ℕ) (mark : Mark) → IsMark threads thread mark → IsTrue (is_mark threads thread mark)
mark_test threads thread (Join from upto) is = and_from _ _ (and_from _ _ (lt-ltb from threads is.0) (differ from thread is.1)) (lt-ltb upto (2 ^ 64) is.2)
mark_test threads thread (Draw number) is = and_from _ _ (le-leb 1 number is.0) (lt-ltb number (2 ^ 64) is.1)
mark_test threads thread (Fence number) is = and_from _ _ (le-leb 1 number is.0) (lt-ltb number (2 ^ 64) is.1)

module _ (script : Script) (run : Parts) (rest : IsAtRest run) (has : HasPrograms script run) where
  abbrev js : Journals
  js = run.journals

  limits : IsValidScript script.fuel script.objects script.threads
  limits = valid_script script.fuel script.objects script.threads script.valid

  fits : (t : ℕ) → t < length js → FitsAll (commands_of script t) (starting_configuration script.fuel) (journal_of js t)
  fits t lt = program_fits (length script.objects) script.fuel (commands_of script t) (journal_of js t) (has.each t lt) (has.within t)

  frugal : IsFrugal js
  frugal = record {
    unmarked = λ p object access private. inl (rest.ordered.sparing.unmarked p object access private);
    few = rest.ordered.sparing.few;
    none_after = rest.none_after;
  }

  few_marks : (t : ℕ) → mark_count (journal_of js t) ≤ 15 * access_count (journal_of js t)
  few_marks t = omega (arith, marks_are_few [] (journal_of js t) (λ event object e at is. rest.ordered.sparing.few (place t event) object (e, at, is)) (rest.none_after t))

  fuelled : (t : ℕ) → t < length js → access_count (journal_of js t) ≤ script.fuel
  fuelled t lt = omega (arith, program_long (length script.objects) (commands_of script t) (journal_of js t) (has.each t lt), has.within t)

  thread_log_valid : (u : ℕ) → u < length js → is_thread_log (length js) u (log_of_journal (journal_of js u)) ≡ true
  thread_log_valid u lt =
      let journal = journal_of js u in
      let marks = gapped_marks 0 journal in
      let few : length marks < 2 ^ 31 = omega (arith, length-gapped_marks 0 journal, few_marks u, fuelled u lt, limits.most_fuel) in
      and_from _ _
      (and_from _ _ (lt-ltb (length marks) (2 ^ 31) few) (le-leb (sum_by (λ m. m.gap) marks) (access_count journal) (omega (arith, gaps_in_all 0 journal))))
      (marks_valid (length js) u 0 journal (λ k mark is. mark_test (length js) u mark (rest.ordered.marks u k mark is)))

  pub log_valid : IsTrue (is_log (log_of js))
  log_valid =
      let logs = log_of js in
      let many : length logs ≡ length script.threads = length-map js log_of_journal ∙ sym has.many in
      let each : All (λ (log : ThreadLog). log.accesses ≤ script.fuel) logs = λ k d lt.
      let at_k : get_or logs k d ≡ log_of_journal (journal_of js k) = get_or-map log_of_journal js k [] d (omega (arith, length-map js log_of_journal)) in
      let f = fuelled k (omega (arith, lt, length-map js log_of_journal)) in
      omega (arith, ap (λ (log : ThreadLog). log.accesses) at_k) in
      let sum : sum_by (λ log. log.accesses) logs ≤ length script.threads * script.fuel = subst (λ (n : ℕ). sum_by (λ log. log.accesses) logs ≤ n * script.fuel) many (sum_by-le (λ (log : ThreadLog). log.accesses) script.fuel logs each) in
      let total : sum_by (λ log. log.accesses) logs ≤ 262144 = omega (arith, limits.fuel_of_all) in
      and_from _ _
      (and_from _ _
      (and_from _ _ (le-leb 1 (length logs) (omega (arith, limits.some_threads))) (le-leb (length logs) 16 (omega (arith, limits.most_threads))))
      (le-leb (sum_by (λ log. log.accesses) logs) 262144 total))
      (thread_logs_valid (length logs) 0 js (λ u less.
      subst (λ (n : ℕ). is_thread_log n (0 + u) (log_of_journal (journal_of js u)) ≡ true) (sym (length-map js log_of_journal))
      (ap (λ (t : ℕ). is_thread_log (length js) t (log_of_journal (journal_of js u))) (omega arith) ∙ thread_log_valid u less)))

  ends_are : (fuel : ℕ) (threads : List (List Command)) (journals : Journals) → length threads ≡ length journals
      → ((t : ℕ) → t < length journals → demanded (get_or threads t []) (configuration_after (get_or threads t []) (starting_configuration fuel) (journal_of journals t)) ≡ ToEnd Done)
      → ends_of fuel threads journals ≡ all_done journals
  ends_are fuel [] [] many each = refl
  ends_are fuel [] (j ∷ journals) many each = absurd (omega (arith, many))
  ends_are fuel (c ∷ threads) [] many each = absurd (omega (arith, many))
  ends_are fuel (c ∷ threads) (j ∷ journals) many each =
      ap (λ (d : _). end_of d ∷ ends_of fuel threads journals) (each 0 (omega arith))
      ∙ ap (λ (l : List End). Done ∷ l) (ends_are fuel threads journals (omega (arith, many)) (λ t lt. each (suc t) (omega (arith, lt))))

  fits_script : FitsScript script js
  fits_script t lt = let f = fits t lt in (f.0, (Done, f.1))

  pub faithful : IsFaithful script (log_of js) (record { ends = all_done js; reads = map values_read js; heap = run.heap })
  faithful =
      let h = subst (λ (l : List ℕ). IsOneHistory l js run.heap 0) (sym has.starts) rest.ordered.history in
      subst (λ (ends : List End). IsFaithful script (log_of js) (record { ends = ends; reads = map values_read js; heap = run.heap }))
      (ends_are script.fuel script.threads js has.many (λ t lt. (fits t lt).1))
      (faithful_from_history (plan_of script) js run.heap 0 h frugal has.many fits_script)

  -- all lawful orders make these journals
  pub orders_make : (order : List ℕ) → IsLawfulOrder script (log_of js) order → journals_after script (log_of js) order ≡ js
  orders_make order lawful =
      let plan = plan_of script in
      let h = subst (λ (l : List ℕ). IsOneHistory l js run.heap 0) (sym has.starts) rest.ordered.history in
      let low = lowest_play plan.starts js in
      let q = order_from_play plan js low h.makes_all has.many fits_script in
      let journals_are = ap (λ (x : PlainState). x.journals) q.1 ∙ h.makes_all.makes in
      let one = one_end (plans.by_log plan (log_of js)) plan.starts plan.threads low order q.0 (subst IsOrdered (sym journals_are) h.ordered) lawful.1 in
      ap (λ (x : PlainState). x.journals) one ∙ journals_are
