-- A thread at rest.
use Rattle.std.proofs.Common.{◌≡◌, ℕ, ◌<◌, Bool, true, false, if◌then◌else◌, ◌&&◌, List, [], length, map, get_or, Option, Some, None, refl, sym, ap, ◌∙◌, subst}
use Rattle.std.proofs.lemmas.List.{get_or-map}
use Rattle.std.proofs.lemmas.Bool.{and_parts}
use Rattle.octet_model.specs.declared.event.Event.{Event}
use Rattle.octet_model.specs.declared.outcome.End.{End}
use Rattle.octet_model.specs.Machine.{journal_of}
use Rattle.octet_model.specs.Journals.{access_count}
use Rattle.octet_interp.specs.Demands.{next_demand}
use Rattle.octet_state.specs.declared.phase.Phase.{Phase}
use Rattle.octet_state.specs.declared.phase.Phase.TheVariants.{Off, Idle}
use Rattle.octet_state.specs.State.{thread_of}
use Rattle.octet_state.specs.Form.{is_nothing}
use Rattle.octet_machine.specs.Machine.{MachineState, runner_of, is_idle, is_at_rest, is_access, wanted}
use Rattle.octet_machine.specs.Running.{IsRunning, IsAt, KeepsUp}

is_idle_phase : (p : Phase) → is_idle p ≡ true → p ≡ Idle
is_idle_phase Idle is = refl
is_idle_phase p is = absurd (cc is)

-- it stands where its journal leaves it
pub rests_at : (m : MachineState) (t : ℕ) → IsRunning m → t < length m.runners → is_at_rest (thread_of m.protocol t) ≡ true
    → IsAt m.script t (journal_of m.protocol.journals t) (runner_of m t).config
rests_at m t running lt rests =
    go (runner_of m t).end (subst (λ (p : Phase). KeepsUp m.script t (journal_of m.protocol.journals t) p (runner_of m t).value (runner_of m t).end (runner_of m t).config)
    (is_idle_phase (thread_of m.protocol t).phase (and_parts (is_idle (thread_of m.protocol t).phase) (is_nothing (thread_of m.protocol t).due) rests).0) (running.keeps_up t lt))
  where
    go : (end : Option End) → KeepsUp m.script t (journal_of m.protocol.journals t) Idle (runner_of m t).value end (runner_of m t).config → IsAt m.script t (journal_of m.protocol.journals t) (runner_of m t).config
    go None at = at
    go (Some end) at = absurd (let off : Idle ≡ Off = at.0 in cc)

-- the journal that the thread has
pub journal_at : {V : Type 0} (items : V → List Event) (vs : List V) (t : ℕ) (j : V) (journal : List Event) → t < length vs → j ≡ get_or vs t j → journal ≡ items j → journal ≡ journal_of (map items vs) t
journal_at items vs t j journal lt found is = is ∙ ap items found ∙ sym (get_or-map items vs t j [] lt)

module _ (m : MachineState) (t : ℕ) where
  abbrev count : ℕ
  count = access_count (journal_of m.protocol.journals t)

  abbrev demands : Bool
  demands = is_access (next_demand (runner_of m t).config)

  abbrev rests : Bool
  rests = is_at_rest (thread_of m.protocol t)

  pub none_at_work : rests ≡ false → None ≡ wanted m t
  none_at_work none = ap (λ (b : Bool). if b && demands then Some count else None) (sym none)

  asked : (b : Bool) → rests ≡ true → demands ≡ b → (if b then Some count else None) ≡ wanted m t
  asked b idle is = ap (λ (d : Bool). if d then Some count else None) (sym is) ∙ ap (λ (r : Bool). if r && demands then Some count else None) (sym idle)

  pub none_for_others : rests ≡ true → demands ≡ false → None ≡ wanted m t
  none_for_others = asked false

  pub some_for_access : (n : ℕ) → rests ≡ true → demands ≡ true → n ≡ count → Some n ≡ wanted m t
  some_for_access n idle is same = ap Some same ∙ asked true idle is
