-- What the steps of seats say of the states at which they are taken.
use Rattle.std.specs.Prelude.{◌≡◌, ℕ, ◌+◌, ◌*◌, ◌^◌, ◌<◌, ◌≤◌, true, IsTrue, List, ◌∷◌, ◌++◌, length, slice_index, slice_set}
use mathlib.Core.Option.{some}
use lib.ListN.{get_elem?}
use Rattle.atomic_table.specs.Table.{State, Me, Allows, Arrives}
use Rattle.octet_model.specs.declared.limits.TheConstants.{MAX_THREADS}
use Rattle.octet_state.specs.declared.act.Mode.{Mode}
use Rattle.octet_state.specs.declared.phase.Phase.TheVariants.{Pass}
use Rattle.octet_state.specs.State.{ProtocolState, state_of, words, opening}
use Rattle.octet_state.specs.Passing.{may_pass}
use Rattle.octet_state.specs.Steps.{Kind, most_accesses, ThreadStep, IsRun}
use Rattle.octet_state.specs.NextStep.{access_of}
use Rattle.octet_rule.specs.Views.{SeatView, Taken}
use Rattle.octet_rule.specs.Runs.{state_after, steps_of, IsStepOf}
use Rattle.octet_rule.specs.Rule.{IsRuled, Steps}

-- the seat's thread passes to such an access of an object, and the object's state lets it
pub record IsLetPass (mode : Mode) (v : SeatView) (s : ProtocolState) : Type 0 where
  pub object : ℕ
  pub passes : v.thread.phase ≡ Pass object mode
  pub lets : IsTrue (may_pass s.statuses s.threads mode v.number object (state_of s object))

-- a cell is read, written or updated only where the object's state lets the thread do so
abbrev pub AccessIsLetPass : Type 0
AccessIsLetPass = (mode : Mode) (value : ℕ) (v : SeatView) (told : ℕ) (w : SeatView)
    → (took : Steps (access_of mode value) v told w) → IsLetPass mode v took.before

-- a journal after any step has at most 16 events for each access that it may have, and 15 more
abbrev pub JournalIsShort : Type 0
JournalIsShort = (k : Kind) (v : SeatView) (told : ℕ) (w : SeatView) → Steps k v told w → length w.journal ≤ 16 * most_accesses + 15

-- each step that a thread took is one of the run, in which it may be taken and is told its word
abbrev pub StepsAreOfRun : Type 0
StepsAreOfRun = (s : ProtocolState) (run : List ThreadStep) (thread : ℕ) (first more : List Taken) (taken : Taken) → IsRun s run
    → steps_of thread s run ≡ first ++ taken ∷ more → IsStepOf s run thread first taken

-- the steps of each thread in a run, with the words told, tell the words that the run leaves.
-- No word changes but by a step that a seat knows of
abbrev pub StepsTellWords : Type 0
StepsTellWords = (threads : ℕ) (starts : List ℕ) (run other : List ThreadStep) → 0 < threads → threads ≤ MAX_THREADS
    → IsRun (opening threads starts) run → IsRun (opening threads starts) other
    → ((thread : ℕ) → steps_of thread (opening threads starts) run ≡ steps_of thread (opening threads starts) other)
    → words (state_after threads starts run) ≡ words (state_after threads starts other)

-- the live views tell the words by the rule. Two tables have the same words,
-- where each live view of one stands at its place in the other
abbrev pub ViewsTellWords : Type 0
ViewsTellWords = (threads : ℕ) (starts : List ℕ) (table other : State (Unit {0}) SeatView) → IsRuled threads starts table → IsRuled threads starts other
    → ((place : ℕ) (v : SeatView) → get_elem? table.views place ≡ some v → v.is_live ≡ true → get_elem? other.views place ≡ some v)
    → table.words ≡ other.words

-- an operation that a seat is allowed on every table, and that tells the seat nothing, changes no word
abbrev pub SilenceChangesNothing : Type 0
SilenceChangesNothing = (threads slots id place : ℕ) (starts : List ℕ) (me : Me (Unit {0}) SeatView) (operation : ℕ → ℕ)
    → Allows (IsRuled threads starts) slots id me place operation (λ word next. next.0 ≡ me.0)
    → (table : State (Unit {0}) SeatView) → IsRuled threads starts table → length table.homes ≡ slots → get_elem? table.views id ≡ some me.0 → slice_index table.words place < 2 ^ 64
    → slice_set table.words place (operation (slice_index table.words place)) ≡ table.words

-- an operation by which a new seat may come changes no word
abbrev pub ArrivalChangesNothing : Type 0
ArrivalChangesNothing = (threads slots place : ℕ) (starts : List ℕ) (operation : ℕ → ℕ) → Arrives (IsRuled threads starts) slots place operation (λ word next. Unit {0})
    → (table : State (Unit {0}) SeatView) → IsRuled threads starts table → length table.homes ≡ slots → slice_index table.words place < 2 ^ 64
    → slice_set table.words place (operation (slice_index table.words place)) ≡ table.words
