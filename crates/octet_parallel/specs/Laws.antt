-- Each step of a player keeps what is sound, and does to the words and the players what it says.
-- What the players did tells the words.
use Rattle.std.specs.Prelude.{◌≡◌, ◌≢◌, ℕ, ◌+◌, ◌%◌, ◌^◌, ◌<◌, ◌≤◌, ◌↔◌, true, List, ◌∷◌, ◌++◌, length, slice_index, slice_set}
use Rattle.octet_model.specs.declared.event.Mark.{Mark}
use Rattle.octet_model.specs.declared.script.Script.{Script}
use Rattle.octet_model.specs.declared.log.Log.{Log}
use Rattle.octet_model.specs.Thread.{added}
use Rattle.octet_model.specs.Machine.{Wants, MakeMark, MakeRead, MakeWrite, MakeUpdate}
use Rattle.octet_parallel.specs.declared.fate.Fate.{Fate}
use Rattle.octet_parallel.specs.declared.fate.Fate.TheVariants.{Playing}
use Rattle.octet_clock.specs.Untied.{IsUntied}
use Rattle.octet_parallel.specs.Needs.{Needs}
use Rattle.octet_parallel.specs.State.{FieldState, player_of, found_of, made_by, stop_number, progress, words, progress_place, cell_place, next_of_player, opening}
use Rattle.octet_parallel.specs.Steps.{Kind, May, step, after, word_found, told, ToLook, ToRead, ToWrite, ToBump, ToAdvance, ToStop, StopsAs, IsFree}
use Rattle.octet_seats.specs.Runs.{ViewsTell, SilenceKeeps, ArrivalKeeps}
use Rattle.octet_parallel.specs.Soundness.{IsSoundField}
use Rattle.octet_parallel.specs.Views.{PlayerView, Taken}
use Rattle.octet_parallel.specs.Runs.{PlayerStep, IsRun, field_after, steps_of, IsStepOf}
use Rattle.octet_parallel.specs.Rule.{IsRuled}

-- the effect of a step: it finds a word in its place and leaves there what an operation makes of this word.
-- It changes its player by the word told alone, and leaves the other players as they are
pub record Does (k : Kind) (t place : ℕ) (operation : ℕ → ℕ) (s : FieldState) : Type 0 where
  pub finds : slice_index (words s) place ≡ word_found k t s
  pub leaves : slice_set (words s) place (operation (word_found k t s)) ≡ words (step k t s)
  pub mine : player_of (step k t s) t ≡ after k (next_of_player s t) (told k t s) (player_of s t)
  pub others : (u : ℕ) → u ≢ t → player_of (step k t s) u ≡ player_of s u
  pub many : length (step k t s).players ≡ length s.players

-- the player may take the step, which keeps the state sound and has this effect at this place
pub record IsLawfulStep (k : Kind) (t place : ℕ) (operation : ℕ → ℕ) (s : FieldState) : Type 0 where
  pub may : May k t s
  pub sound : IsSoundField (step k t s)
  pub does : Does k t place operation s

-- the player has found what a mark needs of others
abbrev pub AreFound : FieldState → ℕ → Mark → Type 0
AreFound s t mark = (whom events : ℕ) → Needs s.log.threads mark whom events → whom ≢ t → (events ≤ found_of (player_of s t) whom) × (found_of (player_of s t) whom ≢ stop_number)

-- a player that plays and owes nothing may look at any player
abbrev pub LookIsLawful : Type 0
LookIsLawful = (s : FieldState) (t place whom : ℕ) → IsSoundField s → t < length s.players
    → IsFree (player_of s t) → whom < length s.players
    → place ≡ progress_place whom → IsLawfulStep (ToLook whom) t place (λ word. word) s

-- a player may read a cell where a read is next for it
abbrev pub ReadIsLawful : Type 0
ReadIsLawful = (s : FieldState) (t place object : ℕ) → IsSoundField s → t < length s.players
    → IsFree (player_of s t) → next_of_player s t ≡ Wants (MakeRead object)
    → place ≡ cell_place (length s.players) object → IsLawfulStep ToRead t place (λ word. word) s

-- a player may write a cell where a write is next for it
abbrev pub WriteIsLawful : Type 0
WriteIsLawful = (s : FieldState) (t place object value : ℕ) → IsSoundField s → t < length s.players
    → IsFree (player_of s t) → next_of_player s t ≡ Wants (MakeWrite object value)
    → place ≡ cell_place (length s.players) object → IsLawfulStep ToWrite t place (λ word. value) s

-- a player may add to a cell where an update is next for it
abbrev pub BumpIsLawful : Type 0
BumpIsLawful = (s : FieldState) (t place object amount : ℕ) → IsSoundField s → t < length s.players
    → IsFree (player_of s t) → next_of_player s t ≡ Wants (MakeUpdate object (added amount))
    → place ≡ cell_place (length s.players) object → IsLawfulStep ToBump t place (λ word. (word + amount) % 2 ^ 64) s

-- a player may count the access that it owes
abbrev pub CountIsLawful : Type 0
CountIsLawful = (s : FieldState) (t place new : ℕ) → IsSoundField s → t < length s.players
    → (player_of s t).owes ≡ true
    → place ≡ progress_place t → new ≡ made_by s t → IsLawfulStep ToAdvance t place (λ word. new) s

-- a player may make the mark that is next for it, once it has found what the mark needs of others
abbrev pub MarkIsLawful : Type 0
MarkIsLawful = (s : FieldState) (t place new : ℕ) (mark : Mark) → IsSoundField s → t < length s.players
    → IsFree (player_of s t) → next_of_player s t ≡ Wants (MakeMark mark) → AreFound s t mark
    → place ≡ progress_place t → new ≡ made_by s t + 1 → IsLawfulStep ToAdvance t place (λ word. new) s

-- a player may stop where it is amiss, or where it has found the stop number
abbrev pub StopIsLawful : Type 0
StopIsLawful = (s : FieldState) (t place : ℕ) (fate : Fate) → IsSoundField s → t < length s.players
    → IsFree (player_of s t) → StopsAs s t fate
    → place ≡ progress_place t → IsLawfulStep (ToStop fate) t place (λ word. stop_number) s

-- the state before the first step is sound, for a script and an untied log of equally many threads
abbrev pub OpeningIsSound : Type 0
OpeningIsSound = (script : Script) (log : Log) → length script.threads ≡ length log.threads → IsUntied log.threads → IsSoundField (opening script log)

-- the progress word of a player is the stop number exactly where the player is amiss or stopped
abbrev pub WordTellsStop : Type 0
WordTellsStop = (s : FieldState) (t : ℕ) → IsSoundField s → t < length s.players → (progress (player_of s t) ≡ stop_number) ↔ ((player_of s t).fate ≢ Playing)

-- each step that a player took is one of the run, in which it may be taken and is told its word
abbrev pub StepsAreOfRun : Type 0
StepsAreOfRun = (script : Script) (log : Log) (run : List PlayerStep) (player : ℕ) (first more : List Taken) (taken : Taken) → IsRun (opening script log) run
    → steps_of player script log run ≡ first ++ taken ∷ more → IsStepOf script log run player first taken

-- the steps of each player in a run, with the words told, tell the words that the run leaves.
-- No word changes but by a step that a player knows of
abbrev pub StepsTellWords : Type 0
StepsTellWords = (script : Script) (log : Log) (run other : List PlayerStep) → IsRun (opening script log) run → IsRun (opening script log) other
    → ((player : ℕ) → steps_of player script log run ≡ steps_of player script log other)
    → words (field_after script log run) ≡ words (field_after script log other)

-- the live views tell the words by the rule
abbrev pub ViewsTellWords : Type 0
ViewsTellWords = (script : Script) (log : Log) → ViewsTell (λ (v : PlayerView). v.is_live) (IsRuled script log)

-- an operation that a player is allowed on every table, and that tells the player nothing, changes no word
abbrev pub SilenceChangesNothing : Type 0
SilenceChangesNothing = (script : Script) (log : Log) → SilenceKeeps (IsRuled script log)

-- an operation by which a new player may come changes no word
abbrev pub ArrivalChangesNothing : Type 0
ArrivalChangesNothing = (script : Script) (log : Log) → ArrivalKeeps (IsRuled script log)
