-- What is recorded of a run whose threads have all ended.
use Rattle.std.proofs.Common.{◌≡◌, ℕ, suc, ◌<◌, true, List, [], ◌∷◌, length, map, get_or, Option, IsTrue, unwrap_or, refl, sym, ap, ◌∙◌, subst, arith}
use Rattle.octet_model.specs.declared.command.Command.{Command}
use Rattle.octet_model.specs.declared.outcome.End.{End}
use Rattle.octet_model.specs.declared.outcome.End.TheVariants.{Spent}
use Rattle.octet_model.specs.Log.{is_log}
use Rattle.octet_model.specs.Thread.{demanded, configuration_after, starting_configuration}
use Rattle.octet_model.specs.Machine.{Journals, journal_of}
use Rattle.octet_model.specs.Journals.{log_of}
use Rattle.octet_model.specs.Orders.{commands_of, end_of, ends_of, values_read, outcome_of}
use Rattle.octet_state.specs.State.{thread_of}
use Rattle.octet_state.proofs.lemmas.ValidLogs.{log_valid}
use Rattle.octet_machine.specs.declared.run.Runner.{Runner}
use Rattle.octet_machine.specs.Machine.{MachineState, runner_of, no_runner, have_ended, plain_state}
use Rattle.octet_machine.specs.Running.{IsRunning, KeepsUp}
use Rattle.octet_machine.proofs.running.End.{each_ended, fuelled_at_end}

ends_are : (fuel : ℕ) (threads : List (List Command)) (js : Journals) (runners : List Runner) → length js ≡ length threads → length runners ≡ length threads
    → ((t : ℕ) → t < length runners → end_of (demanded (get_or threads t []) (configuration_after (get_or threads t []) (starting_configuration fuel) (journal_of js t))) ≡ unwrap_or (get_or runners t no_runner).end Spent)
    → map (λ r. unwrap_or r.end Spent) runners ≡ ends_of fuel threads js
ends_are fuel [] js [] journals as_many ended = refl
ends_are fuel [] js (runner ∷ runners) journals as_many ended = absurd (omega arith)
ends_are fuel (commands ∷ threads) [] runners journals as_many ended = absurd (omega arith)
ends_are fuel (commands ∷ threads) (journal ∷ js) [] journals as_many ended = absurd (omega arith)
ends_are fuel (commands ∷ threads) (journal ∷ js) (runner ∷ runners) journals as_many ended =
    let first : end_of (demanded commands (configuration_after commands (starting_configuration fuel) journal)) ≡ unwrap_or runner.end Spent = ended 0 (omega arith) in
    let rest = ends_are fuel threads js runners (omega arith) (omega arith) (λ t lt. ended (suc t) (omega arith)) in
    ap (λ (x : End). x ∷ map (λ r. unwrap_or r.end Spent) runners) (sym first) ∙ ap (λ (xs : List End). end_of (demanded commands (configuration_after commands (starting_configuration fuel) journal)) ∷ xs) rest

module _ (m : MachineState) (r : IsRunning m) (ended : have_ended m ≡ true) where
  abbrev js : Journals
  js = m.protocol.journals

  as_many : length m.protocol.journals ≡ length m.script.threads
  as_many = r.sound.form.journals ∙ r.threads

  pub journals_valid : IsTrue (is_log (log_of js))
  journals_valid = log_valid m.script m.protocol r.sound as_many (fuelled_at_end m r ended)

  end_at : (t : ℕ) (lt : t < length m.runners) → end_of (demanded (commands_of m.script t) (configuration_after (commands_of m.script t) (starting_configuration m.script.fuel) (journal_of js t))) ≡ unwrap_or (runner_of m t).end Spent
  end_at t lt =
      let e = each_ended m t ended lt in
      let kept = subst (λ (o : Option End). KeepsUp m.script t (journal_of js t) (thread_of m.protocol t).phase (runner_of m t).value o (runner_of m t).config) e.is (r.keeps_up t lt) in
      ap end_of kept.1.ends ∙ sym (ap (λ (o : Option End). unwrap_or o Spent) e.is)

  -- what the calls tell is the outcome
  pub outcome_is : (ends : List End) (reads : List (List ℕ)) (heap : List ℕ) → ends ≡ map (λ r. unwrap_or r.end Spent) m.runners → reads ≡ map values_read js → heap ≡ m.protocol.cells
      → record { ends = ends; reads = reads; heap = heap } ≡ outcome_of m.script (plain_state m.protocol)
  outcome_is ends reads heap ends_told reads_told heap_told =
      let told : ends ≡ ends_of m.script.fuel m.script.threads js =
      ends_told ∙ ends_are m.script.fuel m.script.threads js m.runners as_many (r.runners ∙ r.threads) end_at in
      λ i. record { ends = told i; reads = reads_told i; heap = heap_told i }
