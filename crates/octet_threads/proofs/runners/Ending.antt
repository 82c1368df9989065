-- Runners whose threads have all ended leave a faithful recording.
use Rattle.std.proofs.Common.{◌≡◌, ℕ, zero, suc, ◌<◌, ◌≤◌, inl, inr, List, [], ◌∷◌, length, get_or, map, All, IsTrue, slice_index_or, refl, sym, ap, ◌∙◌, subst, arith}
use Rattle.std.proofs.lemmas.Bool.{cases_lt}
use Rattle.std.proofs.lemmas.List.{length-map, get_or_past}
use Rattle.std.proofs.lemmas.List.Elements.{All-get_or}
use Rattle.std.proofs.Math.Logic.{∥∥₁_elim}
use Rattle.octet_model.specs.declared.command.Command.{Command}
use Rattle.octet_model.specs.declared.event.Event.{Event}
use Rattle.octet_model.specs.declared.outcome.End.{End}
use Rattle.octet_model.specs.declared.outcome.End.TheVariants.{Spent}
use Rattle.octet_model.specs.declared.script.Script.{Script}
use Rattle.octet_model.specs.Log.{is_log}
use Rattle.octet_model.specs.Thread.{Configuration, demanded, configuration_after, starting_configuration, FitsToEnd}
use Rattle.octet_model.specs.Machine.{Journals, journal_of}
use Rattle.octet_model.specs.Journals.{access_count, log_of}
use Rattle.octet_model.specs.Orders.{commands_of, end_of, ends_of, FitsScript, IsFaithful}
use Rattle.octet_interp.specs.declared.demand.Demand.{Demand}
use Rattle.octet_interp.specs.declared.demand.Demand.TheVariants as demand
use Rattle.octet_interp.specs.Demands.{ThreadState, next_demand, after_demand}
use Rattle.octet_interp.specs.Laws.{IsJournalOf, IsJournalPast}
use Rattle.octet_interp.proofs.Journaled.{keep_up}
use Rattle.octet_model.proofs.lemmas.Validity.{valid_script}
use Rattle.octet_state.proofs.lemmas.ValidLogs.{log_valid}
use Rattle.octet_rule.specs.declared.words.Seat.{Seat}
use Rattle.octet_rule.specs.Seats.{view, threads_of}
use Rattle.octet_heap.specs.declared.closed.Closed.{Closed}
use Rattle.octet_heap.specs.declared.heap.Heap.{Heap}
use Rattle.octet_heap.specs.declared.worker.Worker.{Worker}
use Rattle.octet_heap.specs.Workers.{seat_of}
use Rattle.octet_heap.specs.Seated.{seats_in, journals_of, RestsAs, EachRests}
use Rattle.octet_heap.specs.Closings.{IsClosed}
use Rattle.octet_threads.specs.declared.heap.runner.Runner.{Runner}
use Rattle.octet_threads.specs.Runners.{HasEnded, IsEnd, IsOf, AreOf, IsHeapOf, end_told}
use Rattle.octet_threads.specs.Carrying.{start_of}
use Rattle.octet_threads.specs.Work.{workers_in}
use Rattle.octet_threads.proofs.runners.Props.{journal_prop}
use Rattle.octet_threads.proofs.tasks.Fuel.{fuel_left}
use Rattle.octet_threads.proofs.live_log.ThreadLogs.{IsGoodJournal, seen_good}

-- a journal that leaves a thread at its end
ends_with : (start : Configuration) (journal : List Event) (s : ThreadState) → IsJournalOf start journal s → IsEnd (next_demand s)
    → FitsToEnd s.commands start journal × (end_of (demanded s.commands (configuration_after s.commands start journal)) ≡ end_told (next_demand s))
ends_with start journal s kept is = go (next_demand s) (keep_up start journal s kept) is
  where
    go : (d : Demand) → IsJournalPast start journal d (after_demand s) → IsEnd d → FitsToEnd s.commands start journal × (end_of (demanded s.commands (configuration_after s.commands start journal)) ≡ end_told d)
    go (demand.Ended end) past is = (past.0, ap end_of past.1)
    go _ past is = absurd is

abbrev pub ends_in : List Runner → List End
ends_in runners = map (λ runner. end_told (next_demand runner.config)) runners

-- what lists of runners have at a thread's place
record At (runners : List Runner) (t : ℕ) : Type 0 where
  runner : Runner
  is : (none : Runner) → slice_index_or runners t none ≡ runner
  is_worker : (none : Worker) → slice_index_or (workers_in runners) t none ≡ runner.worker
  is_journal : journal_of (journals_of (workers_in runners)) t ≡ (seat_of runner.worker).journal
  is_end : get_or (ends_in runners) t Spent ≡ end_told (next_demand runner.config)

at : (runners : List Runner) (t : ℕ) → t < length runners → At runners t
at [] t there = absurd (omega (arith, there))
at (r ∷ runners) zero there = record { runner = r; is = λ none. refl; is_worker = λ none. refl; is_journal = refl; is_end = refl }
at (r ∷ runners) (suc t) there = let a = at runners t (omega (arith, there)) in record { runner = a.runner; is = a.is; is_worker = a.is_worker; is_journal = a.is_journal; is_end = a.is_end }

ends_are : (fuel : ℕ) (threads : List (List Command)) (js : Journals) (ends : List End) → length js ≡ length threads → length ends ≡ length threads
    → ((t : ℕ) → t < length ends → end_of (demanded (get_or threads t []) (configuration_after (get_or threads t []) (starting_configuration fuel) (journal_of js t))) ≡ get_or ends t Spent)
    → ends ≡ ends_of fuel threads js
ends_are fuel [] js [] journals as_many ended = refl
ends_are fuel [] js (end ∷ ends) journals as_many ended = absurd (omega arith)
ends_are fuel (commands ∷ threads) [] ends journals as_many ended = absurd (omega arith)
ends_are fuel (commands ∷ threads) (journal ∷ js) [] journals as_many ended = absurd (omega arith)
ends_are fuel (commands ∷ threads) (journal ∷ js) (end ∷ ends) journals as_many ended =
    let first : end_of (demanded commands (configuration_after commands (starting_configuration fuel) journal)) ≡ end = ended 0 (omega arith) in
    let rest = ends_are fuel threads js ends (omega arith) (omega arith) (λ t lt. ended (suc t) (omega arith)) in
    ap (λ (x : End). x ∷ ends) (sym first) ∙ ap (λ (xs : List End). end_of (demanded commands (configuration_after commands (starting_configuration fuel) journal)) ∷ xs) rest

seats_have_journals : (workers : List Worker) → map (λ (seat : Seat). (view seat).journal) (seats_in workers) ≡ journals_of workers
seats_have_journals [] = refl
seats_have_journals (w ∷ workers) = ap (λ (l : Journals). (seat_of w).journal ∷ l) (seats_have_journals workers)

module _ (script : Script) (heap : Heap) (runners : List Runner) (is : IsHeapOf script heap) (of : AreOf script runners) (ended : All (HasEnded heap) runners) where
  abbrev workers : List Worker
  workers = workers_in runners

  abbrev js : Journals
  js = journals_of workers

  abbrev start : Configuration
  start = starting_configuration script.fuel

  many_workers : length workers ≡ length runners
  many_workers = length-map runners (λ (r : Runner). r.worker)

  many_journals : length js ≡ length runners
  many_journals = length-map workers (λ (w : Worker). (seat_of w).journal) ∙ many_workers

  pub as_many : length workers ≡ threads_of heap.words
  as_many = many_workers ∙ (of.as_many ∙ sym is.threads)

  module _ (t : ℕ) (there : t < length runners) where
    abbrev r : Runner
    r = (at runners t there).runner

    is_of : IsOf script t r
    is_of = subst (IsOf script t) ((at runners t there).is r) (of.each t r there)

    has_ended : HasEnded heap r
    has_ended = subst (HasEnded heap) ((at runners t there).is r) (All-get_or (HasEnded heap) runners t r there ended)

    -- its journal fits its thread of the script to its end
    whole : FitsToEnd (commands_of script t) start (journal_of js t) × (end_of (demanded (commands_of script t) (configuration_after (commands_of script t) start (journal_of js t))) ≡ get_or (ends_in runners) t Spent)
    whole =
        let kept = ∥∥₁_elim r.fits (journal_prop (start_of r.worker) (seat_of r.worker).journal r.config) (λ k. k) in
        let fuel : r.worker.fuel ≡ script.fuel = has_ended.rests.own.same_fuel ∙ is.fuel in
        let own = ends_with (starting_configuration r.worker.fuel) (seat_of r.worker).journal r.config kept has_ended.ends in
        let Whole : List Command → ℕ → List Event → End → Type 0 = λ commands fuel journal end. FitsToEnd commands (starting_configuration fuel) journal × (end_of (demanded commands (configuration_after commands (starting_configuration fuel) journal)) ≡ end) in
        subst (λ (c : List Command). Whole c script.fuel (journal_of js t) (get_or (ends_in runners) t Spent)) is_of.commands
        (subst (λ (f : ℕ). Whole r.config.commands f (journal_of js t) (get_or (ends_in runners) t Spent)) fuel
        (subst (λ (j : List Event). Whole r.config.commands r.worker.fuel j (get_or (ends_in runners) t Spent)) (sym (at runners t there).is_journal)
        (subst (λ (e : End). Whole r.config.commands r.worker.fuel (seat_of r.worker).journal e) (sym (at runners t there).is_end) own)))

    rests_here : RestsAs heap t r.worker
    rests_here = (has_ended.rests.own, is_of.number, has_ended.rests.rests)

  pub each_rests : EachRests heap workers
  each_rests t none there = let here : t < length runners = let a = many_workers in omega (arith, there) in
      subst (RestsAs heap t) (sym ((at runners t here).is_worker none)) (rests_here t here)

  fits_script : FitsScript script js
  fits_script t there = (whole t (let a = many_journals in omega (arith, there))).0

  pub fuelled : (t : ℕ) → access_count (journal_of js t) ≤ script.fuel
  fuelled t = elim (cases_lt t (length runners)) [
    | inl lt ↦ let most = fuel_left (commands_of script t) start (journal_of js t) (whole t lt).0.0 in omega arith
    | inr past ↦ let a = many_journals in let none : journal_of js t ≡ [] = get_or_past js t [] (omega arith) in omega (arith, ap access_count none)
  ]

  -- its journal was seen in a sound state
  pub good : (t : ℕ) → t < length js → IsGoodJournal (length js) t (journal_of js t)
  good t less =
      let a = many_journals in
      let there : t < length runners = omega (arith, less) in
      let r = (at runners t there).runner in
      let v = seat_of r.worker in
      let e = has_ended t there in
      let journal : v.journal ≡ journal_of js t = sym (at runners t there).is_journal in
      let most : access_count v.journal ≤ 262144 =
      omega (arith, ap access_count journal, fuelled t, (valid_script script.fuel script.objects script.threads script.valid).most_fuel) in
      let many : v.threads ≡ length js = e.rests.own.own.1 ∙ (sym heap.words.keyed ∙ (is.threads ∙ (sym of.as_many ∙ sym many_journals))) in
      subst (λ (n : ℕ). IsGoodJournal n t (journal_of js t)) many
      (subst (λ (n : ℕ). IsGoodJournal v.threads n (journal_of js t)) (is_of t there).number
      (subst (IsGoodJournal v.threads v.number) journal (seen_good v e.seen.state e.seen.seen most)))

  pub many_ended : length js ≡ length script.threads
  many_ended = many_journals ∙ of.as_many

  same_ends : ends_in runners ≡ ends_of script.fuel script.threads js
  same_ends =
      let long : length (ends_in runners) ≡ length runners = length-map runners (λ (x : Runner). end_told (next_demand x.config)) in
      let a = of.as_many in let b = many_journals in
      ends_are script.fuel script.threads js (ends_in runners) (omega arith) (omega arith) (λ t lt. (whole t (omega arith)).1)

  module _ (closed : Closed) (closes : IsClosed heap workers closed) where
    pub valid : IsTrue (is_log closed.logs)
    valid =
        let last = closes.cells.last in
        let same : last.journals ≡ js = closes.cells.journals ∙ seats_have_journals workers in
        let long : length last.journals ≡ length script.threads = ap (λ (l : Journals). length l) same ∙ (many_journals ∙ of.as_many) in
        subst (λ (l : List _). IsTrue (is_log l)) (ap log_of same ∙ sym closes.logs)
        (log_valid script last closes.cells.sound long (λ t. subst (λ (l : Journals). access_count (journal_of l t) ≤ script.fuel) (sym same) (fuelled t)))

    pub faithful : IsFaithful script closed.logs (record { ends = ends_in runners; reads = closed.reads; heap = closed.heap })
    faithful = subst (λ (ends : List End). IsFaithful script closed.logs (record { ends = ends; reads = closed.reads; heap = closed.heap })) (sym same_ends)
        (closes.faithful script (sym is.threads) (sym is.starts) fits_script)
