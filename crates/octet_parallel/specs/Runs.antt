-- Runs of players from the opening of a field, and what each player does in them.
use Rattle.std.specs.Prelude.{ℕ, ◌<◌, List, length}
use Rattle.octet_model.specs.declared.script.Script.{Script}
use Rattle.octet_model.specs.declared.log.Log.{Log}
use Rattle.octet_seats.specs.Runs.{Moves, after_all, steps_by, MayAll, IsStepBy}
use Rattle.octet_parallel.specs.State.{FieldState, opening}
use Rattle.octet_parallel.specs.Steps.{Kind, May, step, told}
use Rattle.octet_parallel.specs.Views.{Taken}

-- one step of a run: its player and its kind
pub record PlayerStep : Type 0 where
  pub player : ℕ
  pub kind : Kind

-- the step as its player knows it: with the word that it is told
abbrev pub taken_in : FieldState → PlayerStep → Taken
taken_in s next = record { kind = next.kind; word = told next.kind next.player s }

-- the moves of players: each step is one of its player, changes the field as its kind says, and is told its word
abbrev pub moves : Moves FieldState PlayerStep Taken
moves = record { who = λ next. next.player; after = λ next s. step next.kind next.player s; taken = taken_in }

-- a player of the field may take the step
abbrev pub MayStep : PlayerStep → FieldState → Type 0
MayStep next s = (next.player < length s.players) × May next.kind next.player s

-- each step of the run may be taken where it is taken
abbrev pub IsRun : FieldState → List PlayerStep → Type 0
IsRun s run = MayAll moves MayStep s run

-- the state after a run from the opening
abbrev pub field_after : Script → Log → List PlayerStep → FieldState
field_after script log run = after_all moves (opening script log) run

-- the steps that one player takes in a run from the opening, in order
abbrev pub steps_of : ℕ → Script → Log → List PlayerStep → List Taken
steps_of player script log run = steps_by moves player (opening script log) run

-- a run from the opening has this step of a player, after those that it took first.
-- The step may be taken there, and is told this word
abbrev pub IsStepOf : Script → Log → List PlayerStep → ℕ → List Taken → Taken → Type 0
IsStepOf script log run player first taken = IsStepBy moves MayStep (opening script log) run player first taken
