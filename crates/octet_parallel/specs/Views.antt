-- What a player knows.
use Rattle.std.specs.Prelude.{ℕ, suc, List, [], ◌∷◌, ◌++◌, Bool, true}
use Rattle.octet_model.specs.declared.script.Script.{Script}
use Rattle.octet_model.specs.declared.log.Log.{Log}
use Rattle.octet_model.specs.Machine.{Next}
use Rattle.octet_model.specs.Orders.{by_log}
use Rattle.octet_seats.specs.Seats.{SeatFacts}
use Rattle.octet_parallel.specs.State.{PlayerState, unbegun}
use Rattle.octet_parallel.specs.Steps.{Kind, after}

-- a step that was taken, and the word that it was told
pub record Taken : Type 0 where
  pub kind : Kind
  pub word : ℕ

-- what a player leaves when it is joined back: how far it is, and the steps that it took
pub record Left : Type 0 where
  pub player : PlayerState
  pub trail : List Taken

-- the view of a player: its number, the script and the log, how far it is, and the steps that it took.
-- The first player's view also tells the players made and joined back. A view joined back is spent
pub record PlayerView : Type 0 where
  pub is_live : Bool
  pub number : ℕ
  pub script : Script
  pub log : Log
  pub player : PlayerState
  pub trail : List Taken
  pub players_made : ℕ
  pub joined : List (ℕ × Left)

-- what a view tells of its seat
abbrev pub facts_of : PlayerView → SeatFacts Left
facts_of v = record { is_live = v.is_live; number = v.number; seats_made = v.players_made; joined = v.joined }

-- the view of a player that has taken no step
abbrev pub new_view : ℕ → Script → Log → ℕ → PlayerView
new_view number script log players_made = record { is_live = true; number = number; script = script; log = log; player = unbegun; trail = []; players_made = players_made; joined = [] }

-- what the player of a view does next by the log
abbrev pub next_in : PlayerView → Next
next_in v = by_log v.script v.log.threads v.number v.player.journal

-- the view after a step of this kind that was told this word
abbrev pub stepped_by : Kind → ℕ → PlayerView → PlayerView
stepped_by k told v = record v {
  player = after k (next_in v) told v.player;
  trail = v.trail ++ record { kind = k; word = told } ∷ [];
}

-- the view of the next player that the first one splits off
abbrev pub split_off : PlayerView → PlayerView
split_off v = new_view v.players_made v.script v.log 0

-- the view of the first player after it has split off another
abbrev pub after_split : PlayerView → PlayerView
after_split v = record v { players_made = suc v.players_made }

-- what the player of a view leaves
abbrev pub left_of : PlayerView → Left
left_of v = record { player = v.player; trail = v.trail }

-- the view of the first player after another was joined to it
abbrev pub after_join : PlayerView → PlayerView → PlayerView
after_join v w = record v { joined = v.joined ++ (w.number, left_of w) ∷ [] }
