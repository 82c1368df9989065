-- The state of a parallel replay: the words that players share, and how far each player is.
use Rattle.std.specs.Prelude.{◌≡◌, ℕ, pred, ◌+◌, ◌*◌, ◌<◌, ◌==◌, if◌then◌else◌, Bool, true, false, List, [], ◌∷◌, ◌++◌, map, length, replicate, get_or}
use Rattle.octet_model.specs.declared.event.Event.{Event}
use Rattle.octet_model.specs.declared.script.Script.{Script}
use Rattle.octet_model.specs.declared.log.Log.{Log}
use Rattle.octet_model.specs.Machine.{PlainState, Next}
use Rattle.octet_model.specs.Orders.{by_log, state_after, starting_heap}
use Rattle.octet_seats.specs.Cells.{spread}
use Rattle.octet_parallel.specs.declared.fate.Fate.{Fate}
use Rattle.octet_parallel.specs.declared.fate.Fate.TheVariants.{Playing, Amiss, Stopped}
use Rattle.octet_parallel.specs.declared.words.TheConstants.{STOP_NUMBER}

-- the state of a player: its journal, and whether this ends in an access that its word does not count yet.
-- Its fate is told, and the numbers found in the words of others, the last first
pub record PlayerState : Type 0 where
  pub journal : List Event
  pub owes : Bool
  pub fate : Fate
  pub found : List (ℕ × ℕ)

-- the state of a field: the script, the log, the steps made in order, the players, and the values of the cells
pub record FieldState : Type 0 where
  pub script : Script
  pub log : Log
  pub front : List ℕ
  pub players : List PlayerState
  pub cells : List ℕ

-- the player before its first event
abbrev pub unbegun : PlayerState
unbegun = record { journal = []; owes = false; fate = Playing; found = [] }

-- the player of a number in this state
abbrev pub player_of : FieldState → ℕ → PlayerState
player_of s player = get_or s.players player unbegun

-- the number of events that a player has made
abbrev pub made_by : FieldState → ℕ → ℕ
made_by s player = length (player_of s player).journal

-- the number that was found last of a player, 0 where none was
abbrev pub found_last : List (ℕ × ℕ) → ℕ → ℕ
found_last [] whom = 0
found_last (look ∷ looks) whom = if whom == look.0 then look.1 else found_last looks whom

-- the number that a player found last of another, 0 where it found none
abbrev pub found_of : PlayerState → ℕ → ℕ
found_of p whom = found_last p.found whom

-- the number that says that a player is amiss or stopped
abbrev pub stop_number : ℕ
stop_number = STOP_NUMBER

-- the number of its events that a player shows
abbrev pub shown : PlayerState → ℕ
shown p = elim p.owes [ true ↦ pred (length p.journal) | false ↦ length p.journal ]

-- the progress word of a player
abbrev pub progress : PlayerState → ℕ
progress p = elim p.fate [ Playing ↦ shown p | Amiss ↦ stop_number | Stopped whom ↦ stop_number ]

-- the words of a field: a progress word for each player, and a cell for each object
abbrev pub words : FieldState → List ℕ
words s = spread (map progress s.players ++ s.cells)

-- the place of a player's progress word
abbrev pub progress_place : ℕ → ℕ
progress_place player = 8 * player

-- the place of an object's cell
abbrev pub cell_place : ℕ → ℕ → ℕ
cell_place players object = 8 * (players + object)

-- what a player does next by the log
abbrev pub next_of_player : FieldState → ℕ → Next
next_of_player s player = by_log s.script s.log.threads player (player_of s player).journal

-- the plain machine's state after the front
abbrev pub plain : FieldState → PlainState
plain s = state_after s.script s.log.threads s.front

-- the state before the first step
abbrev pub opening : Script → Log → FieldState
opening script log = record { script = script; log = log; front = []; players = replicate (length log.threads) unbegun; cells = starting_heap script }

-- some player is amiss
pub record SomeAmiss (s : FieldState) : Type 0 where
  pub whom : ℕ
  pub within : whom < length s.players
  pub is_amiss : (player_of s whom).fate ≡ Amiss
