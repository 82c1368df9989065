-- Runs of steps that threads take on words that they share, and what each thread does in a run.
use Rattle.std.specs.Prelude.{◌≡◌, ℕ, ◌^◌, ◌<◌, ◌==◌, if◌then◌else◌, List, [], ◌∷◌, ◌++◌, Bool, true, length, slice_index, slice_set}
use mathlib.Core.Option.{some}
use lib.ListN.{get_elem?}
use Rattle.atomic_table.specs.Table.{State, Me, Allows, Arrives}

-- a kind of run: who takes a step, what it makes of a state, and what its thread is told of it
pub record Moves (S N T : Type 0) : Type 0 where
  pub who : N → ℕ
  pub after : N → S → S
  pub taken : S → N → T

-- the state after a run from a state
abbrev pub after_all : {S N T : Type 0} → Moves S N T → S → List N → S
after_all moves s [] = s
after_all moves s (next ∷ run) = after_all moves (moves.after next s) run

-- the steps that one thread takes in a run from a state, in order, as the thread is told of them
abbrev pub steps_by : {S N T : Type 0} → Moves S N T → ℕ → S → List N → List T
steps_by moves thread s [] = []
steps_by moves thread s (next ∷ run) = (if moves.who next == thread then moves.taken s next ∷ [] else []) ++ steps_by moves thread (moves.after next s) run

-- each step of the run may be taken where it is taken
abbrev pub MayAll : {S N T : Type 0} → Moves S N T → (N → S → Type 0) → S → List N → Type 0
MayAll moves May s [] = Unit {0}
MayAll moves May s (next ∷ run) = May next s × MayAll moves May (moves.after next s) run

-- a run from a state has a step of this thread that tells it this, after the steps that it took first
pub record IsStepBy {S N T : Type 0} (moves : Moves S N T) (May : N → S → Type 0) (s : S) (run : List N) (thread : ℕ) (first : List T) (taken : T) : Type 0 where
  pub before : List N
  pub step : N
  pub after : List N
  pub parts : run ≡ before ++ step ∷ after
  pub by : moves.who step ≡ thread
  pub earlier : steps_by moves thread s before ≡ first
  pub may : May step (after_all moves s before)
  pub is : taken ≡ moves.taken (after_all moves s before) step

-- the live views tell the words by a rule. Two tables of the rule have the same words,
-- where each live view of one stands at its place in the other
abbrev pub ViewsTell : {V : Type 0} → (V → Bool) → (State (Unit {0}) V → Type 0) → Type 0
ViewsTell {V} is_live Rule = (table other : State (Unit {0}) V) → Rule table → Rule other
    → ((place : ℕ) (v : V) → get_elem? table.views place ≡ some v → is_live v ≡ true → get_elem? other.views place ≡ some v)
    → table.words ≡ other.words

-- an operation on a word of a table leaves all words as they are
abbrev pub ChangesNothing : {V : Type 0} → (ℕ → ℕ) → ℕ → State (Unit {0}) V → Type 0
ChangesNothing operation place table = slice_set table.words place (operation (slice_index table.words place)) ≡ table.words

-- an operation that a seat is allowed on every table, and that tells the seat nothing, changes nothing
abbrev pub SilenceKeeps : {V : Type 0} → (State (Unit {0}) V → Type 0) → Type 0
SilenceKeeps {V} Rule = (slots id place : ℕ) (me : Me (Unit {0}) V) (operation : ℕ → ℕ)
    → Allows Rule slots id me place operation (λ word next. next.0 ≡ me.0)
    → (table : State (Unit {0}) V) → Rule table → length table.homes ≡ slots → get_elem? table.views id ≡ some me.0 → slice_index table.words place < 2 ^ 64
    → ChangesNothing operation place table

-- an operation by which a new seat may come changes nothing
abbrev pub ArrivalKeeps : {V : Type 0} → (State (Unit {0}) V → Type 0) → Type 0
ArrivalKeeps {V} Rule = (slots place : ℕ) (operation : ℕ → ℕ) → Arrives Rule slots place operation (λ word next. Unit {0})
    → (table : State (Unit {0}) V) → Rule table → length table.homes ≡ slots → slice_index table.words place < 2 ^ 64
    → ChangesNothing operation place table
