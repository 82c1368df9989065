-- The next step by what is due and by the phase.
use Rattle.std.proofs.Common.{◌≡◌, ℕ, length, slice_set, ap, ◌∙◌}
use Rattle.octet_state.specs.declared.phase.Phase.{Phase}
use Rattle.octet_state.specs.declared.phase.Due.{Due}
use Rattle.octet_state.specs.State.{thread_of}
use Rattle.octet_state.specs.Steps.{Kind, step, told}
use Rattle.octet_state.specs.NextStep.{kind_in_phase, kind_by_due, waits}
use Rattle.octet_interp.specs.Demands.{next_demand}
use Rattle.octet_machine.specs.Machine.{MachineState, runner_of, kind_of_demand, next_kind, run_in_phase, run_by_due, after_step, next_waits}

module _ (m : MachineState) (me : ℕ) where
  abbrev pub kind_here : Phase → Kind
  kind_here p = kind_in_phase (length m.protocol.threads) me (thread_of m.protocol me).count (kind_of_demand (next_demand (runner_of m me).config)) (runner_of m me).value p

  -- after a step of this kind, taken where this is due in this phase
  abbrev pub ends_by : Kind → Due → Phase → MachineState
  ends_by k d p = record {
    protocol = step k me m.protocol;
    runners = slice_set m.runners me (run_by_due d (runner_of m me) (run_in_phase (told k me m.protocol) p (runner_of m me)));
    script = m.script;
  }

  module _ (d : Due) (p : Phase) (due : (thread_of m.protocol me).due ≡ d) (phase : (thread_of m.protocol me).phase ≡ p) where
    pub kind_is : next_kind m me ≡ kind_by_due d (kind_here p)
    kind_is = ap (λ (e : Due). kind_by_due e (kind_here (thread_of m.protocol me).phase)) due ∙ ap (λ (q : Phase). kind_by_due d (kind_here q)) phase

    pub after_is : after_step m me ≡ ends_by (kind_by_due d (kind_here p)) d p
    after_is =
        ap (λ (k : Kind). ends_by k (thread_of m.protocol me).due (thread_of m.protocol me).phase) kind_is
        ∙ ap (λ (e : Due). ends_by (kind_by_due d (kind_here p)) e (thread_of m.protocol me).phase) due
        ∙ ap (λ (q : Phase). ends_by (kind_by_due d (kind_here p)) d q) phase

    pub waits_is : next_waits m me ≡ waits (kind_by_due d (kind_here p)) me (told (kind_by_due d (kind_here p)) me m.protocol) (thread_of m.protocol me)
    waits_is = ap (λ (k : Kind). waits k me (told k me m.protocol) (thread_of m.protocol me)) kind_is
