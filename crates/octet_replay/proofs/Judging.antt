-- What becomes of the threads when none may step.
use Rattle.std.proofs.Common.{◌≡◌, ℕ, suc, ◌+◌, ◌^◌, ◌<◌, ◌≤◌, inl, inr, List, [], ◌∷◌, length, map, take, Some, get_or, slice_get, refl, sym, ap, ◌∙◌, subst, arith}
use Rattle.std.proofs.lemmas.List.{length-map}
use Rattle.std.proofs.lemmas.Option.{slice_get_within, slice_get_cases}
use Rattle.std.specs.List.{sum}
use Rattle.octet_model.specs.declared.command.Command.{Command}
use Rattle.octet_model.specs.declared.outcome.End.{End}
use Rattle.octet_model.specs.declared.outcome.Outcome.{Outcome}
use Rattle.octet_model.specs.declared.event.Event.{Event}
use Rattle.octet_model.specs.declared.limits.TheConstants.{MAX_THREADS}
use Rattle.octet_model.specs.declared.log.ThreadLog.{ThreadLog}
use Rattle.octet_model.specs.Thread.{AccessOrEnd, demanded, configuration_after, starting_configuration}
use Rattle.octet_model.specs.Machine.{Journals, journal_of, PlainState, next_of}
use Rattle.octet_model.specs.Orders.{commands_of, thread_log_of, by_log, opening_state, lowest_order, end_of, ends_of, values_read, outcome_of, execution}
use Rattle.octet_model.proofs.lemmas.LowestFronts.{lowest_order_is_lowest, lowest_is_front}
use Rattle.octet_model.proofs.lemmas.LogsOfJournals.{as_many_after}
use Rattle.octet_model.proofs.lemmas.Splits.{length_parts}
use Rattle.octet_model.proofs.lemmas.Validity.{valid_log}
use Rattle.octet_replay.specs.declared.fault.ReplayFault.{ReplayFault}
use Rattle.octet_replay.specs.declared.fault.ReplayFault.TheVariants.{ThreadsDiffer, Stuck, Misfit, OutOfMemory}
use Rattle.octet_replay.specs.declared.thread.ThreadReplay.{ThreadReplay}
use Rattle.octet_replay.specs.declared.replayer.replay.Replay.{Replay}
use Rattle.octet_replay.specs.NextDemand.{demand_of}
use Rattle.octet_replay.specs.Judged.{IsLawful, last_state, last_journal, last_demand, Finds, FindsOf, IsMisfitThread, IsStuck, HasCause}
use Rattle.octet_replay.specs.ReplayState.{plain_state, HasHalted}
use Rattle.octet_replay.specs.Replayed.{state_of, FindsIn, FindsNothing, IsAt, IsFinishedHere, TellsMisfit}
use Rattle.octet_replay.proofs.lemmas.Halting.{is_last_state}
use Rattle.octet_replay.proofs.Stepping.{next_here}
use Rattle.octet_replay.proofs.lemmas.Valid.{few_marks}

some_thread : (threads : List ThreadReplay) (t : ℕ) → t < length threads → (x : ThreadReplay) × (slice_get threads t ≡ Some x)
some_thread threads t within =
    elim (slice_get_cases threads t).1 [
      | inl there ↦ (there.0, there.2)
      | inr past ↦ absurd (omega (arith, past.0))
    ]

-- the same of each thread and of its journal
same_maps : {B : Type 0} (f : ThreadReplay → B) (g : List Event → B) (threads : List ThreadReplay) (journals : Journals) → length threads ≡ length journals
    → ((t : ℕ) (x : ThreadReplay) → slice_get threads t ≡ Some x → f x ≡ g (journal_of journals t)) → map f threads ≡ map g journals
same_maps f g [] [] as_many same = refl
same_maps f g [] (j ∷ journals) as_many same = absurd (omega arith)
same_maps f g (x ∷ threads) [] as_many same = absurd (omega arith)
same_maps {B = B} f g (x ∷ threads) (j ∷ journals) as_many same =
    let rest = same_maps f g threads journals (omega arith) (λ t y at. same (suc t) y at) in
    ap (λ (bs : List B). f x ∷ bs) rest ∙ ap (λ (b : B). b ∷ map g journals) (same 0 x refl)

ends_are : (fuel : ℕ) (commands : List (List Command)) (threads : List ThreadReplay) (journals : Journals) → length threads ≡ length commands → length threads ≡ length journals
    → ((t : ℕ) (x : ThreadReplay) → slice_get threads t ≡ Some x
    → demanded (get_or commands t []) (configuration_after (get_or commands t []) (starting_configuration fuel) (journal_of journals t)) ≡ demand_of x.up_next)
    → map (λ (x : ThreadReplay). end_of (demand_of x.up_next)) threads ≡ ends_of fuel commands journals
ends_are fuel [] [] journals same as_many demands = refl
ends_are fuel [] (x ∷ threads) journals same as_many demands = absurd (omega arith)
ends_are fuel (c ∷ commands) [] journals same as_many demands = absurd (omega arith)
ends_are fuel (c ∷ commands) (x ∷ threads) [] same as_many demands = absurd (omega arith)
ends_are fuel (c ∷ commands) (x ∷ threads) (j ∷ journals) same as_many demands =
    let first : demanded c (configuration_after c (starting_configuration fuel) j) ≡ demand_of x.up_next = demands 0 x refl in
    let rest = ends_are fuel commands threads journals (omega arith) (omega arith) (λ t y at. demands (suc t) y at) in
    ap (λ (es : List End). end_of (demand_of x.up_next) ∷ es) rest ∙ ap (λ (d : AccessOrEnd). end_of d ∷ ends_of fuel commands journals) (sym first)

same_outcome : {e e' : List End} {p p' : List (List ℕ)} {h h' : List ℕ} → e ≡ e' → p ≡ p' → h ≡ h'
    → ◌≡◌ {A = Outcome} (record { ends = e; reads = p; heap = h }) (record { ends = e'; reads = p'; heap = h' })
same_outcome e p h = rw (e, p, h) refl

same_finds : {d d' : AccessOrEnd} {j j' : List Event} (log : ThreadLog) (found : ℕ) → d ≡ d' → j ≡ j' → Finds d log j found → Finds d' log j' found
same_finds {d = d} {d' = d'} {j = j} {j' = j'} log found p q finds =
    subst (λ (x : List Event). Finds d' log x found) q (subst (λ (x : AccessOrEnd). Finds x log j found) p finds)

-- the replay has come to the end of the lowest order
module _ (r : Replay) (at : IsAt r) (halted : HasHalted (state_of r)) where
  pub ends : plain_state (state_of r) ≡ last_state r.script.value r.log.value.threads
  ends = is_last_state (state_of r) at.agree halted

  as_many : length r.threads.items ≡ length r.script.value.threads
  as_many =
      at.stands.as_many ∙ as_many_after (by_log r.script.value r.log.value.threads) (take (sum r.waits.events) (lowest_order r.script.value r.log.value.threads)) (opening_state r.script.value)
      ∙ length-map r.script.value.threads (λ (c : List Command). [])

  pub many_here : length r.threads.items ≡ length r.log.value.threads
  many_here = as_many ∙ at.agree

  pub few_here : length r.threads.items ≤ MAX_THREADS
  few_here = omega (arith, many_here, (valid_log r.log.value.threads r.log.value.valid).most_threads)

  pub marks_here : (t : ℕ) (x : ThreadReplay) → slice_get r.threads.items t ≡ Some x → x.marks < 2 ^ 32
  marks_here t x there = omega (arith, (at.stands.each t x there).few_marks, few_marks r.log.value.threads r.log.value.valid t)

  journal_is : (t : ℕ) → last_journal r.script.value r.log.value.threads t ≡ journal_of (plain_state (state_of r)).journals t
  journal_is t = ap (λ (s : PlainState). journal_of s.journals t) (sym ends)

  demand_is : (t : ℕ) (x : ThreadReplay) → slice_get r.threads.items t ≡ Some x → last_demand r.script.value r.log.value.threads t ≡ demand_of x.up_next
  demand_is t x there =
      ap (λ (j : List Event). demanded (commands_of r.script.value t) (configuration_after (commands_of r.script.value t) (starting_configuration r.script.value.fuel) j)) (journal_is t)
      ∙ (at.stands.each t x there).comes.demands

  finds_of : (t found : ℕ) (x : ThreadReplay) → slice_get r.threads.items t ≡ Some x → FindsIn (thread_log_of r.log.value.threads t) x found → FindsOf r.script.value r.log.value.threads t found
  finds_of t found x there finds =
      same_finds (thread_log_of r.log.value.threads t) found (sym (demand_is t x there)) (sym (journal_is t)) (finds (journal_of (plain_state (state_of r)).journals t) (at.stands.each t x there).counts)

  finds_not : (t : ℕ) (x : ThreadReplay) → slice_get r.threads.items t ≡ Some x → FindsNothing (thread_log_of r.log.value.threads t) x → ¬ IsMisfitThread r.script.value r.log.value.threads t
  finds_not t x there none misfit =
      none (journal_of (plain_state (state_of r)).journals t) misfit.0 (at.stands.each t x there).counts
      (same_finds (thread_log_of r.log.value.threads t) misfit.0 (demand_is t x there) (journal_is t) misfit.1)

  pub misfit_is_cause : (fault : ReplayFault) → TellsMisfit r.log.value.threads r.threads.items fault → HasCause r.script.value r.log.value.threads fault
  misfit_is_cause (Misfit thread wanted found) tells =
      let within : thread < length r.log.value.threads = omega (arith, slice_get_within r.threads.items thread tells.it tells.is_there, many_here) in
      record {
        agree = at.agree;
        within = within;
        wants = tells.wants;
        finds = finds_of thread found tells.it tells.is_there tells.finds;
        lowest = λ lower below.
            let there = some_thread r.threads.items lower (omega (arith, many_here)) in
            finds_not lower there.0 there.1 (tells.lowest lower there.0 below there.1);
      }
  misfit_is_cause (ThreadsDiffer of_script of_log) tells = absurd tells
  misfit_is_cause (Stuck positions) tells = absurd tells
  misfit_is_cause OutOfMemory tells = absurd tells

  pub stuck_is_cause : ((t : ℕ) (x : ThreadReplay) → slice_get r.threads.items t ≡ Some x → FindsNothing (thread_log_of r.log.value.threads t) x)
      → (positions : List ℕ) → (waits : (t : ℕ) × (t < length r.threads.items) × ¬ IsFinishedHere r.log.value.threads r.threads.items t)
      → positions ≡ map (λ (x : ThreadReplay). x.accesses + x.marks) r.threads.items → IsStuck r.script.value r.log.value.threads positions
  stuck_is_cause none positions waits made = record {
    agree = at.agree;
    fit = λ t within.
        let there = some_thread r.threads.items t (omega (arith, many_here)) in
        finds_not t there.0 there.1 (none t there.0 there.1);
    waits = (
      waits.0,
      (let below : waits.0 < length r.log.value.threads = omega (arith, many_here, waits.1) in below),
      λ finished. waits.2 (λ x there.
          sym (next_here r.script.value r.log.value.threads (plain_state (state_of r)) r.threads.items r.heap.items r.waits at.stands waits.0 x there)
          ∙ ap (λ (s : PlainState). next_of (by_log r.script.value r.log.value.threads) s waits.0) ends ∙ finished),
    );
    made =
        made
        ∙ same_maps (λ (x : ThreadReplay). x.accesses + x.marks) (λ (j : List Event). length j) r.threads.items (plain_state (state_of r)).journals at.stands.as_many
        (λ t x there.
        let counts = (at.stands.each t x there).counts in
        omega (arith, counts.counts_accesses, counts.counts_marks, length_parts (journal_of (plain_state (state_of r)).journals t)))
        ∙ ap (λ (s : PlainState). map (λ (j : List Event). length j) s.journals) ends;
  }

  pub finished_is_lawful : ((t : ℕ) → IsFinishedHere r.log.value.threads r.threads.items t) → IsLawful r.script.value r.log.value.threads
  finished_is_lawful finished = (
    at.agree,
    (
      lowest_is_front (by_log r.script.value r.log.value.threads) (lowest_order r.script.value r.log.value.threads) (opening_state r.script.value)
          (lowest_order_is_lowest r.script.value r.log.value.threads at.agree),
      λ t within.
          let there = some_thread r.threads.items t (omega (arith, at.stands.as_many, ap (λ (s : PlainState). length s.journals) ends)) in
          ap (λ (s : PlainState). next_of (by_log r.script.value r.log.value.threads) s t) (sym ends)
          ∙ next_here r.script.value r.log.value.threads (plain_state (state_of r)) r.threads.items r.heap.items r.waits at.stands t there.0 there.1 ∙ finished t there.0 there.1,
    ),
  )

  pub outcome_is : (ends_told : List End) (reads : List (List ℕ)) (heap : List ℕ)
      → ends_told ≡ map (λ (x : ThreadReplay). end_of (demand_of x.up_next)) r.threads.items
      → reads ≡ map (λ (x : ThreadReplay). x.reads.items) r.threads.items
      → heap ≡ r.heap.items
      → ◌≡◌ {A = Outcome} (record { ends = ends_told; reads = reads; heap = heap }) (execution r.script.value r.log.value.threads (lowest_order r.script.value r.log.value.threads))
  outcome_is ends_told reads heap e p h =
      same_outcome
      (e ∙ ends_are r.script.value.fuel r.script.value.threads r.threads.items (plain_state (state_of r)).journals as_many at.stands.as_many (λ t x there. (at.stands.each t x there).comes.demands))
      (p ∙ same_maps (λ (x : ThreadReplay). x.reads.items) values_read r.threads.items (plain_state (state_of r)).journals at.stands.as_many (λ t x there. (at.stands.each t x there).reads))
      (h ∙ at.stands.heap_is)
      ∙ ap (outcome_of r.script.value) ends
