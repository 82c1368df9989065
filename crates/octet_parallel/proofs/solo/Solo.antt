-- What threads that are apart come to, each alone, is what the lowest order comes to.
use Rattle.std.proofs.Common.{◌≡◌, ◌≢◌, ℕ, zero, suc, ◌<◌, inl, inr, true, All, List, [], ◌∷◌, length, map, get_or, Some, None, slice_get, slice_index, refl, sym, ap, ◌∙◌, subst, arith}
use Rattle.std.proofs.lemmas.List.{length-map, ext_get_or}
use Rattle.octet_model.specs.declared.command.Command.{Command}
use Rattle.octet_model.specs.declared.event.Event.{Event}
use Rattle.octet_model.specs.declared.outcome.Outcome.{Outcome}
use Rattle.octet_model.specs.declared.log.ThreadLog.{ThreadLog}
use Rattle.octet_model.specs.declared.script.Script.{Script}
use Rattle.octet_model.specs.Thread.{demanded, configuration_after, starting_configuration}
use Rattle.octet_model.specs.Machine.{journal_of, PlainState, Next, Finished, NothingFits, Behavior, next_of}
use Rattle.octet_model.specs.Orders.{by_log, commands_of, thread_log_of, starting_heap, opening_state, state_after, lowest_order, ends_of, values_read, IsLawfulOrder, IsLawfulFront}
use Rattle.octet_model.proofs.lemmas.LowestFronts.{lowest_order_is_lowest}
use Rattle.octet_model.proofs.lemmas.LogsOfJournals.{as_many_after}
use Rattle.octet_replay.specs.Threads.{end_told, values_of}
use Rattle.octet_replay.proofs.lemmas.Traces.{lowest_order_is_front}
use Rattle.octet_clock.specs.Fronts.{OrdersConflicts, IsAmissAfter, demand_after}
use Rattle.octet_clock.specs.Untied.{IsUntied}
use Rattle.octet_clock.proofs.lemmas.FrontLaws.{amiss_fits_nothing, untied_front_goes_on}
use Rattle.octet_parallel.specs.declared.alone.Alone.{Alone}
use Rattle.octet_parallel.specs.Apart.{Names, AreApart}
use Rattle.octet_parallel.specs.Alone.{heap_by, Stops, HasPlayedAlone, HavePlayedAlone, IsOutcomeOf}
use Rattle.octet_parallel.specs.Judging.{IsJudged}
use Rattle.octet_parallel.proofs.solo.Named.{EventNamed, made_named, wants_named}
use Rattle.octet_parallel.proofs.solo.Making.{one_end, each_made, kept_or_written}
use Rattle.octet_parallel.proofs.solo.Fronts.{IsSolo, solo_at_last, solo_is_ordered, none_may}
use Rattle.octet_parallel.proofs.verdicts.Concluding.{ends_are, same_outcome}

-- the items of two lists of which one is told of the other
maps_meet : {A B C : Type 0} (f : A → C) (g : B → C) (xs : List A) (ys : List B) (y : B) → length xs ≡ length ys
    → ((k : ℕ) (none : A) → k < length xs → f (get_or xs k none) ≡ g (get_or ys k y)) → map f xs ≡ map g ys
maps_meet f g [] [] y same alike = refl
maps_meet f g [] (b ∷ ys) y same alike = absurd (omega arith)
maps_meet f g (a ∷ xs) [] y same alike = absurd (omega arith)
maps_meet f g (a ∷ xs) (b ∷ ys) y same alike = let rest = maps_meet f g xs ys y (omega arith) (λ k none h. alike (suc k) none (omega arith)) in λ i. alike 0 a (omega arith) i ∷ rest i

some_one : {A : Type 0} (xs : List A) → 0 < length xs → A
some_one [] h = absurd (omega arith)
some_one (x ∷ xs) h = x

-- a thread that has a command is there
there : (threads : List (List Command)) (t place : ℕ) (command : Command) → slice_get (get_or threads t []) place ≡ Some command → t < length threads
there [] t place command is = absurd cc
there (c ∷ threads) zero place command is = omega arith
there (c ∷ threads) (suc t) place command is = let h = there threads t place command is in omega arith

finished_stops : (n : Next) → n ≡ Finished → Stops n
finished_stops n is = subst Stops (sym is) tt

nothing_stops : (n : Next) → n ≡ NothingFits → Stops n
nothing_stops n is = subst Stops (sym is) tt

module _ (script : Script) (log : List ThreadLog) (threads : List Alone) (apart : AreApart script) (agree : length script.threads ≡ length log) (played : HavePlayedAlone script log threads) where
  abbrev V : Behavior
  V = by_log script log

  abbrev last : PlainState
  last = state_after script log (lowest_order script log)

  abbrev last_journal : ℕ → List Event
  last_journal t = journal_of last.journals t

  solo : IsSolo script log apart last
  solo = solo_at_last script log apart

  many : length last.journals ≡ length log
  many = as_many_after V (lowest_order script log) (opening_state script) ∙ length-map {B = List Event} script.threads (λ (c : List Command). []) ∙ agree

  alone_at : (t : ℕ) (none : Alone) → t < length log → HasPlayedAlone script log t (get_or threads t none)
  alone_at t none h = played.1 t none (omega (arith, played.0))

  -- where nothing is next for a thread after the lowest order, it has made there what it makes alone
  same_journal : (t : ℕ) (none : Alone) (h : t < length log) → Stops (next_of V last t) → last_journal t ≡ (alone_at t none h).journal
  same_journal t none h stops =
      let alone = alone_at t none h in
      one_end (V t) (last_journal t) alone.journal [] (starting_heap script) (solo.makes t) alone.made.makes stops alone.stops

  next_alone : (t : ℕ) (none : Alone) (h : t < length log) → Stops (next_of V last t) → next_of V last t ≡ V t (alone_at t none h).journal
  next_alone t none h stops = ap (λ (j : List Event). V t j) (same_journal t none h stops)

  -- it names what it changed alone
  changed_named : (t object : ℕ) (none : Alone) → t < length log → (slice_index (get_or threads t none).heap.items object ≢ slice_index (starting_heap script) object) → Names (commands_of script t) object
  changed_named t object none h differs =
      let alone = alone_at t none h in
      let named : (k : ℕ) (e : Event) → slice_get alone.journal k ≡ Some e → EventNamed (commands_of script t) e =
      each_made (V t) (EventNamed (commands_of script t)) (λ j heap o wants. made_named (commands_of script t) o heap (wants_named script log t j o wants)) alone.journal [] (starting_heap script) alone.made.makes in
      elim (kept_or_written (commands_of script t) alone.journal (starting_heap script) object named) [
        | inl same ↦ absurd (differs (ap (λ (heap : List ℕ). slice_index heap object) alone.made.heap ∙ same))
        | inr writes ↦ writes.names
      ]

  -- where the log orders all conflicts, each thread is through alone
  through_alone : IsLawfulOrder script log (lowest_order script log) → All (λ (a : Alone). a.is_through ≡ true) threads
  through_alone order t none h =
      let inside : t < length log = omega (arith, h, played.0) in
      let finished : next_of V last t ≡ Finished = order.1.1 t (omega (arith, inside, many)) in
      let alone = alone_at t none inside in
      alone.through.1 (sym (next_alone t none inside (finished_stops (next_of V last t) finished)) ∙ finished)

  pub refused : (All (λ (a : Alone). a.is_through ≡ true) threads → ⊥) → IsJudged script log None
  refused not orders = not (through_alone orders.0)

  module _ (untied : IsUntied log) (all : All (λ (a : Alone). a.is_through ≡ true) threads) where
    front : IsLawfulFront script log (lowest_order script log)
    front = (agree, lowest_order_is_front script log)

    not_amiss : (t : ℕ) → t < length log → IsAmissAfter script log (lowest_order script log) t → ⊥
    not_amiss t h amiss =
        let none = some_one threads (omega (arith, h, played.0)) in
        let nothing : next_of V last t ≡ NothingFits = amiss_fits_nothing (demand_after script t (last_journal t)) (thread_log_of log t) (last_journal t) amiss in
        let alone = alone_at t none h in
        let through : V t alone.journal ≡ Finished = alone.through.0 (all t none (omega (arith, h, played.0))) in
        let same = next_alone t none h (nothing_stops (next_of V last t) nothing) in
        absurd cc

    lawful : IsLawfulOrder script log (lowest_order script log)
    lawful =
        elim (untied_front_goes_on script log (lowest_order script log) untied front) [
          | inl order ↦ order
          | inr (inl may) ↦ absurd (let none = none_may V (lowest_order script log) (opening_state script) (lowest_order_is_lowest script log agree) may.0 in let yes = may.1 in cc)
          | inr (inr amiss) ↦ absurd (not_amiss amiss.0 amiss.1 amiss.2)
        ]

    orders : OrdersConflicts script log
    orders = (lawful, solo_is_ordered script log apart last solo)

    journal_is : (t : ℕ) (none : Alone) (h : t < length log) → last_journal t ≡ (alone_at t none h).journal
    journal_is t none h = same_journal t none h (finished_stops (next_of V last t) (lawful.1.1 t (omega (arith, h, many))))

    module _ (outcome : Outcome) (is : IsOutcomeOf script threads outcome) where
      ends_told : map (λ (a : Alone). end_told a.replay) threads ≡ ends_of script.fuel script.threads last.journals
      ends_told =
          ends_are (λ (a : Alone). a.replay) script.fuel script.threads threads last.journals (played.0 ∙ sym agree) (played.0 ∙ sym many)
          (λ t none h.
          let inside : t < length log = omega (arith, h, played.0) in
          let commands = commands_of script t in
          ap (λ (j : List Event). demanded commands (configuration_after commands (starting_configuration script.fuel) j)) (journal_is t none inside) ∙ (alone_at t none inside).made.replay.comes.demands)

      reads_told : map (λ (a : Alone). values_of a.replay) threads ≡ map values_read last.journals
      reads_told =
          maps_meet (λ (a : Alone). values_of a.replay) values_read threads last.journals [] (played.0 ∙ sym many)
          (λ t none h.
          let inside : t < length log = omega (arith, h, played.0) in
          (alone_at t none inside).made.replay.reads ∙ ap values_read (sym (journal_is t none inside)))

      -- what a thread names has the value that it left there alone
      left_alone : (t object : ℕ) (none : Alone) → t < length log → Names (commands_of script t) object → slice_index last.heap object ≡ slice_index (get_or threads t none).heap.items object
      left_alone t object none h names =
          solo.agrees t object names ∙ ap (λ (j : List Event). slice_index (heap_by j (starting_heap script)) object) (journal_is t none h)
          ∙ ap (λ (heap : List ℕ). slice_index heap object) (sym (alone_at t none h).made.heap)

      value_is : (object : ℕ) → object < length (starting_heap script) → slice_index outcome.heap object ≡ slice_index last.heap object
      value_is object h = elim (is.heap.1 object h) [
        | inl changes ↦
            let none = some_one threads (omega (arith, changes.within)) in
            let inside : changes.thread < length log = omega (arith, changes.within, played.0) in
            let own = changes.changed none in
            let names = changed_named changes.thread object none inside (λ e. own.1 (sym own.0 ∙ e)) in
            sym own.0 ∙ sym (left_alone changes.thread object none inside names)
        | inr keeps ↦ elim (solo.comes object) [
          | inl same ↦ keeps.kept ∙ sym same
          | inr writer ↦
              let inside : writer.0 < length log = omega (arith, there script.threads writer.0 writer.1.names.place writer.1.names.command writer.1.names.stands, agree) in
              let none = some_one threads (omega (arith, inside, played.0)) in
              keeps.kept ∙ sym (keeps.by_all writer.0 none (omega (arith, inside, played.0))) ∙ sym (left_alone writer.0 object none inside writer.1.names)
        ]
      ]

      pub concluded : IsJudged script log (Some outcome)
      concluded = (
        orders,
        same_outcome (is.ends ∙ ends_told) (is.reads ∙ reads_told)
            (ext_get_or 0 outcome.heap last.heap (is.heap.0 ∙ sym solo.long) (λ object h. value_is object (omega (arith, h, is.heap.0)))),
      )
