-- Interleavings of the plain machine, by the programs of its threads alone.
use Rattle.std.specs.Prelude.{◌≡◌, ℕ, true, List}
use Rattle.std.specs.List.{list_all}
use Rattle.octet_model.specs.declared.script.Script.{Script}
use Rattle.octet_model.specs.Thread.{AccessOrEnd, ToRead, ToWrite, ToBump, ToEnd, added, demanded, configuration_after, starting_configuration}
use Rattle.octet_model.specs.Machine.{PlainState, Next, Wants, Finished, MakeRead, MakeWrite, MakeUpdate, Behavior, after, IsOrder}
use Rattle.octet_model.specs.Plans.{Plan, commands_of, opening_state, ends_of}
use Rattle.octet_model.specs.Orders.{is_done, starting_heap}
use Rattle.octet_outcomes.specs.Runs.{IsOutcome}

-- what comes of a demand: its access, or nothing more
abbrev pub next_demanded : AccessOrEnd → Next
next_demanded (ToRead object) = Wants (MakeRead object)
next_demanded (ToWrite object value) = Wants (MakeWrite object value)
next_demanded (ToBump object amount) = Wants (MakeUpdate object (added amount))
next_demanded (ToEnd end) = Finished

-- what the threads of a plan do next, by their programs alone
abbrev pub by_program : Plan → Behavior
by_program plan thread journal = next_demanded (demanded (commands_of plan thread) (configuration_after (commands_of plan thread) (starting_configuration plan.fuel) journal))

-- the plan of a script, with this fuel
abbrev pub plan_with : Script → ℕ → Plan
plan_with script fuel = record { fuel = fuel; starts = starting_heap script; threads = script.threads }

-- the state after the accesses of these threads, one after another
abbrev pub state_after : Plan → List ℕ → PlainState
state_after plan order = after (by_program plan) (opening_state plan) order

-- some interleaving, by some fuel, leaves the heap, and all its threads are done
pub record IsFinal (script : Script) (heap : List ℕ) : Type 0 where
  pub fuel : ℕ
  pub order : List ℕ
  pub is_order : IsOrder (by_program (plan_with script fuel)) (opening_state (plan_with script fuel)) order
  pub done : list_all is_done (ends_of fuel script.threads (state_after (plan_with script fuel) order).journals) ≡ true
  pub leaves : (state_after (plan_with script fuel) order).heap ≡ heap

-- every outcome is the final heap of an interleaving
abbrev pub OutcomesAreFinal : Type 0
OutcomesAreFinal = (script : Script) (heap : List ℕ) → IsOutcome script heap → IsFinal script heap

-- every interleaving of a script, by its own fuel, whose threads are all done ends with an outcome
abbrev pub FinalsAreOutcomes : Type 0
FinalsAreOutcomes = (script : Script) (order : List ℕ) → IsOrder (by_program (plan_with script script.fuel)) (opening_state (plan_with script script.fuel)) order
    → list_all is_done (ends_of script.fuel script.threads (state_after (plan_with script script.fuel) order).journals) ≡ true
    → IsOutcome script (state_after (plan_with script script.fuel) order).heap
