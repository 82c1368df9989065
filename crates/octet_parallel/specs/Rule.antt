-- The rule: between any two steps the words are those after a run of the players.
-- The steps of the run are those that the players' views tell of.
use Rattle.std.specs.Prelude.{◌≡◌, ℕ, ◌<◌, List, [], ◌∷◌, ◌++◌, true, false, length, slice_set}
use mathlib.Core.Option.{some, none}
use lib.ListN.{get_elem?}
use Rattle.atomic_table.specs.Table.{State, Me, Step as TableStep, step as table_step}
use Rattle.octet_model.specs.declared.script.Script.{Script}
use Rattle.octet_model.specs.declared.log.Log.{Log}
use Rattle.octet_clock.specs.Untied.{IsUntied}
use Rattle.octet_parallel.specs.State.{FieldState, player_of, unbegun, words, opening, progress_place, cell_place}
use Rattle.octet_parallel.specs.Steps as steps
use Rattle.octet_parallel.specs.Steps.{Kind, May, step, ToLook, ToRead, ToWrite, ToBump, target}
use Rattle.octet_parallel.specs.Soundness.{IsSoundField}
use Rattle.octet_seats.specs.Seats.{AreSeats}
use Rattle.octet_parallel.specs.Views.{PlayerView, Left, facts_of, new_view, next_in, stepped_by}
use Rattle.octet_parallel.specs.Runs.{PlayerStep, IsRun, field_after, steps_of}

-- the player is as its view has it, in a sound state
pub record IsSeenBy (v : PlayerView) (s : FieldState) : Type 0 where
  pub sound : IsSoundField s
  pub script : s.script ≡ v.script
  pub log : s.log ≡ v.log
  pub inside : v.number < length s.players
  pub stands : player_of s v.number ≡ v.player

-- the player is as its view has it after a run, and the steps that it took are those of the view's trail
pub record Follows (script : Script) (log : Log) (run : List PlayerStep) (v : PlayerView) : Type 0 where
  pub seen : IsSeenBy v (field_after script log run)
  pub trail : steps_of v.number script log run ≡ v.trail

-- a player that was joined back is kept as it was, with the trail that it left
pub record HasLeft (script : Script) (log : Log) (run : List PlayerStep) (number : ℕ) (left : Left) : Type 0 where
  pub stands : player_of (field_after script log run) number ≡ left.player
  pub trail : steps_of number script log run ≡ left.trail

-- a player that is not made yet has made no event and no step
pub record IsUnmade (script : Script) (log : Log) (run : List PlayerStep) (number : ℕ) : Type 0 where
  pub stands : player_of (field_after script log run) number ≡ unbegun
  pub trail : steps_of number script log run ≡ []

-- the words are those after a run from the opening. Each player has taken the steps in it that its view tells of,
-- and no others
pub record IsRuled (script : Script) (log : Log) (table : State (Unit {0}) PlayerView) : Type 0 where
  pub agree : length script.threads ≡ length log.threads
  pub untied : IsUntied log.threads
  pub run : List PlayerStep
  pub is_run : IsRun (opening script log) run
  pub lie : table.words ≡ words (field_after script log run)
  pub seats : AreSeats facts_of (Follows script log run) (HasLeft script log run) (IsUnmade script log run) (length log.threads) table.views

-- the view of the first player at first
abbrev pub first_view : Script → Log → PlayerView
first_view script log = new_view 0 script log 1

-- the view that is spent. Its script and its log are the shortest ones
abbrev pub spent : PlayerView
spent = record {
  is_live = false;
  number = 0;
  script = record { fuel = 1; objects = []; threads = [] ∷ []; valid = λ i. true };
  log = record { threads = record { accesses = 0; marks = [] } ∷ []; valid = λ i. true };
  player = unbegun;
  trail = [];
  players_made = 0;
  joined = [];
}

-- the player in whose word a player has last found a number
abbrev pub last_whom : List (ℕ × ℕ) → ℕ
last_whom [] = 0
last_whom (look ∷ looks) = look.0

-- the player of the last look, which found the stop number
abbrev pub stop_found : PlayerView → ℕ
stop_found v = last_whom v.player.found

-- the table steps from one state to another under the rule. The player of this view takes one step,
-- the run grows by this step, and the views of the others stay
pub record IsRuledStep (k : Kind) (s : FieldState) (v w : PlayerView) : Type 0 where
  pub table : State (Unit {0}) PlayerView
  pub seat : ℕ
  pub has : get_elem? table.views seat ≡ some v
  pub rule : IsRuled v.script v.log table
  pub is_before : field_after v.script v.log rule.run ≡ s
  pub rule_after : IsRuled v.script v.log record { words = words (step k v.number s); homes = table.homes; views = slice_set table.views seat w }
  pub grows : rule_after.run ≡ rule.run ++ record { player = v.number; kind = k } ∷ []

-- a ruled step, closed to the search for proofs, which seldom need it
unfoldable pub KeepsRule : Kind → FieldState → PlayerView → PlayerView → Type 0
KeepsRule k s v w = IsRuledStep k s v w

-- one step by the player of a view, which is told this word. The step is taken in the state after a run from the
-- opening, comes next in that run, and leads to a sound state
pub record Steps (k : Kind) (v : PlayerView) (told : ℕ) (w : PlayerView) : Type 0 where
  pub before : FieldState
  pub seen : IsSeenBy v before
  pub may : May k v.number before
  pub word : told ≡ steps.told k v.number before
  pub moves : w ≡ stepped_by k told v
  pub seen_after : IsSeenBy w (step k v.number before)
  pub ruled : KeepsRule k before v w

-- the place of the word that the step of a player reads or changes
abbrev pub place_by : Kind → PlayerView → ℕ
place_by (ToLook whom) v = progress_place whom
place_by ToRead v = cell_place (length v.log.threads) (target (next_in v))
place_by ToWrite v = cell_place (length v.log.threads) (target (next_in v))
place_by ToBump v = cell_place (length v.log.threads) (target (next_in v))
place_by _ v = progress_place v.number

-- the step on the table at a place, with what its operation is given
abbrev pub operation_on : ℕ → ℕ → ℕ → TableStep (Unit {0})
operation_on slots place given = table_step slots place given 0 none

-- the player takes one step, by the one operation that is its own, on the step's own word
abbrev pub Acts : Kind → TableStep (Unit {0}) → Me (Unit {0}) PlayerView → ℕ → Me (Unit {0}) PlayerView → Type 0
Acts k operation me told next = (next.1 ≡ me.1) × Steps k me.0 told next.0 × (operation.word ≡ place_by k me.0)
