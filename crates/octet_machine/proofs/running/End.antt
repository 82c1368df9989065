-- A machine whose threads have all ended has a faithful recording.
use Rattle.std.proofs.Common.{◌≡◌, ℕ, ◌<◌, ◌≤◌, inl, inr, true, false, List, [], length, Option, Some, None, refl, ap, subst, arith}
use Rattle.std.specs.Option.{is_some}
use Rattle.std.proofs.lemmas.Bool.{cases_lt}
use Rattle.std.proofs.lemmas.List.{get_or_past}
use Rattle.std.proofs.lemmas.List.Folds.{list_all_at}
use Rattle.octet_model.specs.declared.outcome.End.{End}
use Rattle.octet_model.specs.Machine.{journal_of}
use Rattle.octet_model.specs.Journals.{access_count}
use Rattle.octet_model.specs.Orders.{plan_of, starting_heap, FitsScript}
use Rattle.octet_model.specs.Plays.{IsOneHistory}
use Rattle.octet_model.proofs.lemmas.Growth.{faithful_from_history}
use Rattle.octet_state.specs.declared.phase.Phase.TheVariants.{Off}
use Rattle.octet_state.specs.State.{Thread, thread_of, unstarted}
use Rattle.octet_state.proofs.lemmas.Laws.{off_is_frugal}
use Rattle.octet_machine.specs.declared.run.Runner.{Runner}
use Rattle.octet_machine.specs.Machine.{MachineState, runner_of, no_runner, have_ended}
use Rattle.octet_machine.specs.Running.{IsRunning, KeepsUp}
use Rattle.octet_machine.specs.Laws.{EndIsFaithful}

-- each thread of a machine that has ended has ended
pub record EndsWith (m : MachineState) (t : ℕ) : Type 0 where
  pub end : End
  pub is : (runner_of m t).end ≡ Some end

pub each_ended : (m : MachineState) (t : ℕ) → have_ended m ≡ true → t < length m.runners → EndsWith m t
each_ended m t ended lt = go (runner_of m t).end refl
  where
    go : (e : Option End) → (runner_of m t).end ≡ e → EndsWith m t
    go (Some end) is = record { end = end; is = is }
    go None is = absurd (
        let none_here : is_some (runner_of m t).end ≡ false = ap is_some is in
        let none = list_all_at (λ (x : Runner). is_some x.end) m.runners t no_runner lt none_here in cc (none, ended))

module _ (m : MachineState) (r : IsRunning m) (ended : have_ended m ≡ true) where
  kept : (t : ℕ) (lt : t < length m.runners) → KeepsUp m.script t (journal_of m.protocol.journals t) (thread_of m.protocol t).phase (runner_of m t).value (Some (each_ended m t ended lt).end) (runner_of m t).config
  kept t lt =
      let e = each_ended m t ended lt in
      subst (λ (o : Option End). KeepsUp m.script t (journal_of m.protocol.journals t) (thread_of m.protocol t).phase (runner_of m t).value o (runner_of m t).config) e.is (r.keeps_up t lt)

  pub all_off : (t : ℕ) → (thread_of m.protocol t).phase ≡ Off
  all_off t = elim (cases_lt t (length m.runners)) [
    | inl lt ↦ (kept t lt).0
    | inr past ↦ let a = r.runners in ap (λ (x : Thread). x.phase) (get_or_past m.protocol.threads t unstarted (omega arith))
  ]

  pub fits_script : FitsScript m.script m.protocol.journals
  fits_script t lt =
      let a = r.runners in let b = r.sound.form.journals in
      let here : t < length m.runners = omega arith in
      let h = (kept t here).1 in
      (h.fits, ((each_ended m t ended here).end, h.ends))

  pub fuelled_at_end : (t : ℕ) → access_count (journal_of m.protocol.journals t) ≤ m.script.fuel
  fuelled_at_end t = elim (cases_lt t (length m.runners)) [
    | inl lt ↦ (kept t lt).1.fuelled
    | inr past ↦
        let a = r.runners in let b = r.sound.form.journals in
        let none : journal_of m.protocol.journals t ≡ [] = get_or_past m.protocol.journals t [] (omega arith) in
        omega (arith, ap access_count none)
  ]

  pub has_history : IsOneHistory (starting_heap m.script) m.protocol.journals m.protocol.cells m.protocol.counter
  has_history = subst (λ (starts : List ℕ). IsOneHistory starts m.protocol.journals m.protocol.cells m.protocol.counter) r.starts r.sound.one_history

pub end_is_faithful : EndIsFaithful
end_is_faithful m r ended =
    faithful_from_history (plan_of m.script) m.protocol.journals m.protocol.cells m.protocol.counter (has_history m r ended) (off_is_frugal m.protocol r.sound (all_off m r ended))
    (let a = r.threads in let b = r.sound.form.journals in omega arith) (fits_script m r ended)
