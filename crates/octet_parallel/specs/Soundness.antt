-- A sound state of a parallel replay: between any two steps, what was made so far is a front of the script and the log.
use Rattle.std.specs.Prelude.{◌≡◌, ◌≢◌, ℕ, ◌<◌, ◌≤◌, true, All, map, length}
use Rattle.octet_model.specs.Machine.{IsFront}
use Rattle.octet_model.specs.Orders.{by_log, opening_state}
use Rattle.octet_parallel.specs.declared.fate.Fate.TheVariants.{Playing, Amiss, Stopped}
use Rattle.octet_clock.specs.Untied.{IsUntied}
use Rattle.octet_parallel.specs.State.{PlayerState, FieldState, SomeAmiss, player_of, made_by, stop_number, plain}
use Rattle.octet_parallel.specs.Steps.{IsAmissBy}

-- a sound look. Where the look found the stop number, some player is amiss.
-- Any other number is at most the length of that player's journal
pub record IsSoundLook (s : FieldState) (look : ℕ × ℕ) : Type 0 where
  pub stop : look.1 ≡ stop_number → SomeAmiss s
  pub number : look.1 ≢ stop_number → look.1 ≤ made_by s look.0

-- a sound player: what it owes, its fate and its looks are true of the state
pub record IsSoundPlayer (s : FieldState) (t : ℕ) (p : PlayerState) : Type 0 where
  -- a player that owes has made an access and plays
  pub owes : p.owes ≡ true → (p.fate ≡ Playing) × (0 < length p.journal)
  -- a player is amiss only where its journal, the script and the log say so
  pub amiss : p.fate ≡ Amiss → IsAmissBy s.script s.log.threads t p.journal
  -- some player is amiss where this one is stopped
  pub stopped : (whom : ℕ) → p.fate ≡ Stopped whom → SomeAmiss s
  -- each look of the player is sound
  pub looks : All (IsSoundLook s) p.found

-- a sound state: what was made so far is a front of the script and the log, and each player is sound
pub record IsSoundField (s : FieldState) : Type 0 where
  pub agree : length s.script.threads ≡ length s.log.threads
  pub untied : IsUntied s.log.threads
  pub as_many : length s.players ≡ length s.log.threads
  -- the front is lawful, its journals are those of the players, and its heap is the cells
  pub lawful : IsFront (by_log s.script s.log.threads) (opening_state s.script) s.front
  pub journals : (plain s).journals ≡ map (λ p. p.journal) s.players
  pub heap : (plain s).heap ≡ s.cells
  pub each : (t : ℕ) → t < length s.players → IsSoundPlayer s t (player_of s t)
