-- A rest between two demands keeps the machine running.
use Rattle.std.proofs.Common.{◌≡◌, ℕ, ◌<◌, Bool, true, false, if◌then◌else◌, List, length, get_or, Option, Some, None, refl, sym, ap, ◌∙◌, subst, arith}
use Rattle.std.proofs.lemmas.Bool.{and_parts}
use Rattle.std.proofs.lemmas.List.{set-get_or}
use Rattle.octet_model.specs.declared.outcome.End.{End}
use Rattle.octet_model.specs.declared.script.Script.{Script}
use Rattle.octet_model.specs.Machine.{journal_of}
use Rattle.octet_state.specs.declared.phase.Phase.{Phase}
use Rattle.octet_state.specs.declared.phase.Phase.TheVariants.{Off, Idle}
use Rattle.octet_state.specs.declared.phase.Due.{Due}
use Rattle.octet_state.specs.declared.phase.Due.TheVariants.{Nothing}
use Rattle.octet_state.specs.State.{thread_of}
use Rattle.octet_state.specs.Steps.{ToBlock, step}
use Rattle.octet_state.specs.Form.{is_nothing}
use Rattle.octet_machine.specs.declared.run.Run.{Run}
use Rattle.octet_machine.specs.declared.run.Runner.{Runner}
use Rattle.octet_machine.specs.Memory.{Shape, shape}
use Rattle.octet_machine.specs.Machine.{MachineState, runner_of, no_runner, is_idle, is_at_rest, after_rest}
use Rattle.octet_machine.specs.Running.{IsRunning, KeepsUp}
use Rattle.octet_machine.specs.Run.{machine_in, IsHeld}
use Rattle.octet_machine.proofs.running.EachTurn.{rest_keeps}

is_idle_phase : (p : Phase) → is_idle p ≡ true → p ≡ Idle
is_idle_phase Idle is = refl
is_idle_phase p is = absurd (cc is)

nothing_due : (d : Due) → is_nothing d ≡ true → d ≡ Nothing
nothing_due Nothing is = refl
nothing_due d is = absurd (cc is)

abbrev rested : MachineState → ℕ → MachineState
rested m me = record { protocol = step (ToBlock false) me m.protocol; runners = m.runners; script = m.script }

module _ (m : MachineState) (me : ℕ) where
  abbrev rests : Bool
  rests = is_at_rest (thread_of m.protocol me)

  pub to_rested : rests ≡ true → rested m me ≡ after_rest m me
  to_rested is = ap (λ (b : Bool). if b then rested m me else m) (sym is)

  pub not_rested : rests ≡ false → m ≡ after_rest m me
  not_rested is = ap (λ (b : Bool). if b then rested m me else m) (sym is)

  pub rest_keeps_script : (after_rest m me).script ≡ m.script
  rest_keeps_script = go rests
    where
      go : (b : Bool) → (if b then rested m me else m).script ≡ m.script
      go true = refl
      go false = refl

  pub rest_keeps_runners : (after_rest m me).runners ≡ m.runners
  rest_keeps_runners = go rests
    where
      go : (b : Bool) → (if b then rested m me else m).runners ≡ m.runners
      go true = refl
      go false = refl

  pub rests_keep : IsRunning m → me < length m.runners → IsRunning (after_rest m me)
  rests_keep r there = go rests refl
    where
      goes_on : (thread_of m.protocol me).phase ≡ Idle → (runner_of m me).end ≡ None
      goes_on phase = by (runner_of m me).end refl
        where
          by : (e : Option End) → (runner_of m me).end ≡ e → (runner_of m me).end ≡ None
          by None is = is
          by (Some end) is =
              let kept : KeepsUp m.script me (journal_of m.protocol.journals me) (thread_of m.protocol me).phase (runner_of m me).value (Some end) (runner_of m me).config =
              subst (λ (e : Option End). KeepsUp m.script me (journal_of m.protocol.journals me) (thread_of m.protocol me).phase (runner_of m me).value e (runner_of m me).config) is (r.keeps_up me there) in
              absurd (let off : Idle ≡ Off = sym phase ∙ kept.0 in cc off)

      go : (b : Bool) → rests ≡ b → IsRunning (if b then rested m me else m)
      go true is =
          let parts = and_parts (is_idle (thread_of m.protocol me).phase) (is_nothing (thread_of m.protocol me).due) is in
          let phase = is_idle_phase (thread_of m.protocol me).phase parts.0 in
          let due = nothing_due (thread_of m.protocol me).due parts.1 in
          subst (λ (runners : List Runner). IsRunning (record { protocol = step (ToBlock false) me m.protocol; runners = runners; script = m.script }))
          (set-get_or m.runners me no_runner) (rest_keeps m me r there (goes_on phase) due phase)
      go false is = r

-- and what the run holds
pub held_at_rest : (before after : Run) (me : ℕ) → IsHeld before → me < length before.runners.items → machine_in after ≡ after_rest (machine_in before) me → shape after.memory ≡ shape before.memory → IsHeld after
held_at_rest before after me held there rests shaped =
    let script : after.script ≡ before.script = ap (λ (m : MachineState). m.script) rests ∙ rest_keeps_script (machine_in before) me in
    let many : length after.runners.items ≡ length before.runners.items = ap (λ (m : MachineState). length m.runners) rests ∙ ap (λ (xs : List Runner). length xs) (rest_keeps_runners (machine_in before) me) in
    record {
      running = subst IsRunning (sym rests) (rests_keep (machine_in before) me held.running there);
      rooms = λ thread lt.
          let room = held.rooms thread (omega arith) in
          let fuel = ap (λ (s : Script). s.fuel) script in
          let same = ap (λ (s : Shape). get_or s.rooms thread 0) shaped in
          omega arith;
    }
