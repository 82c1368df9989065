-- What the calls of a field say.
use Rattle.std.specs.Prelude.{◌≡◌, ◌≢◌, ℕ, zero, suc, ◌+◌, ◌<◌, ◌≤◌, ◌⊎◌, false, List, [], ◌∷◌, ◌++◌, map, length, Option, Some, None, IfSome, slice_index_or}
use Rattle.std.specs.Vec.{vec_capacity}
use Rattle.octet_model.specs.declared.event.Event.{Event}
use Rattle.octet_model.specs.declared.event.Event.TheVariants.{Marked}
use Rattle.octet_model.specs.declared.event.Mark.{Mark}
use Rattle.octet_model.specs.declared.script.Script.{Script}
use Rattle.octet_model.specs.declared.log.Log.{Log}
use Rattle.octet_model.specs.declared.log.ThreadLog.{ThreadLog}
use Rattle.octet_model.specs.Thread.{starting_configuration}
use Rattle.octet_model.specs.Machine.{Next, Wants, Finished, MakeMark, MakeRead, MakeWrite, MakeUpdate}
use Rattle.octet_model.specs.Journals.{access_count}
use Rattle.octet_model.specs.Orders.{commands_of, thread_log_of, IsLawfulFront, IsLawfulOrder, journals_after, execution}
use Rattle.octet_clock.specs.Fronts.{IsAmissAfter}
use Rattle.octet_replay.specs.declared.next_step.NextStep.{NextStep}
use Rattle.octet_replay.specs.NextSteps.{as_next, AccessesWithin}
use Rattle.octet_replay.specs.Threads.{IsReplayOf, next_by_counts, DemandsWithin}
use Rattle.octet_parallel.specs.declared.fate.Fate.{Fate}
use Rattle.octet_parallel.specs.declared.fate.Fate.TheVariants.{Playing, Amiss, Stopped}
use Rattle.octet_parallel.specs.declared.played.Played.{Played}
use Rattle.octet_parallel.specs.declared.played.Played.TheVariants.{Made, Waits, Through, Amiss as GoneAmiss, Stopped as HasStopped}
use Rattle.octet_parallel.specs.declared.finished.Finished as finished
use Rattle.octet_parallel.specs.declared.player.Player.{Player}
use Rattle.octet_parallel.specs.declared.words.Seat.{Seat}
use Rattle.octet_parallel.specs.declared.field.Field.{Field}
use Rattle.octet_parallel.specs.Needs.{Needs}
use Rattle.octet_parallel.specs.State.{unbegun, stop_number, opening}
use Rattle.octet_parallel.specs.Steps.{Kind, ToLook, ToRead, ToWrite, ToBump, ToAdvance, ToStop, IsAmissBy, event_next}
use Rattle.octet_parallel.specs.Views.{PlayerView, next_in}
use Rattle.octet_parallel.specs.Runs.{PlayerStep, IsRun, field_after, steps_of}
use Rattle.octet_parallel.specs.Rule.{Steps}
use Rattle.octet_parallel.specs.Tracks.{IsOnTrack}
use Rattle.octet_parallel.specs.Seats.{view, script_of, log_of, IsSeatOf}

-- the view of the player's seat
abbrev pub view_of : Player → PlayerView
view_of player = view player.seat

-- the script of a field
abbrev pub script_in : Field → Script
script_in field = script_of field.words

-- the log of a field
abbrev pub log_in : Field → Log
log_in field = log_of field.words

-- the number of players of a field
abbrev pub players_in : Field → ℕ
players_in field = field.words.players

-- the player of a seat as it is at first
pub record IsPlayerAt (script : Script) (log : List ThreadLog) (number : ℕ) (seat : Seat) (player : Player) : Type 0 where
  pub seated : player.seat ≡ seat
  pub numbered : player.number ≡ number
  pub fate : player.fate ≡ Playing
  pub journal : player.journal.items ≡ []
  pub replay : IsReplayOf (commands_of script number) (starting_configuration script.fuel) (length script.objects) (thread_log_of log number) [] player.replay
  pub room : (thread_log_of log number).accesses + length (thread_log_of log number).marks ≤ vec_capacity player.journal

-- the players of the seats from a number on, as they are at first
abbrev pub ArePlayersAt : Script → List ThreadLog → ℕ → List Seat → List Player → Type 0
ArePlayersAt script log number [] [] = Unit {0}
ArePlayersAt script log number (seat ∷ seats) (player ∷ players) = IsPlayerAt script log number seat player × ArePlayersAt script log (number + 1) seats players
ArePlayersAt script log number _ _ = ⊥

-- the player's journal has room for all events of the thread's log
abbrev pub HasRoom : ThreadLog → Player → Type 0
HasRoom log player = log.accesses + length log.marks ≤ vec_capacity player.journal

-- the player is one of the field's, between two calls
pub record IsPlayerOf (field : Field) (player : Player) : Type 0 where
  pub own : IsSeatOf field.words player.seat
  pub number : (view_of player).number ≡ player.number
  pub inside : player.number < players_in field
  pub fate : (view_of player).player.fate ≡ player.fate
  pub paid : (view_of player).player.owes ≡ false
  pub journal : (view_of player).player.journal ≡ player.journal.items
  pub track : IsOnTrack (thread_log_of (log_in field).threads player.number) player.journal.items
  pub replay : IsReplayOf (commands_of (script_in field) player.number) (starting_configuration (script_in field).fuel) (length (script_in field).objects) (thread_log_of (log_in field).threads player.number) player.journal.items player.replay
  pub room : HasRoom (thread_log_of (log_in field).threads player.number) player

-- the step is next for the player by its own log and replay, and its object is one of the script's
pub record IsNextStep (field : Field) (player : Player) (next : NextStep) : Type 0 where
  pub by_log : as_next next ≡ next_by_counts (thread_log_of (log_in field).threads player.number) player.replay
  pub within : (objects : ℕ) → DemandsWithin objects player.replay → AccessesWithin objects next

-- an access is next
abbrev pub IsAccess : Next → Type 0
IsAccess (Wants (MakeRead object)) = Unit {0}
IsAccess (Wants (MakeWrite object value)) = Unit {0}
IsAccess (Wants (MakeUpdate object change)) = Unit {0}
IsAccess _ = ⊥

-- the number of accesses that the player made, where an access is next, else none
abbrev pub TellsAccess : PlayerView → Option ℕ → Type 0
TellsAccess v None = ¬ IsAccess (next_in v)
TellsAccess v (Some made) = IsAccess (next_in v) × (made ≡ access_count v.player.journal)

-- the kind of step is one on a cell
abbrev pub IsOnCell : Kind → Type 0
IsOnCell ToRead = Unit {0}
IsOnCell ToWrite = Unit {0}
IsOnCell ToBump = Unit {0}
IsOnCell _ = ⊥

-- the player makes an access by a step on a cell, and counts it by an advance
pub record MakesAccess (v w : PlayerView) : Type 0 where
  pub kind : Kind
  pub on_cell : IsOnCell kind
  pub told : ℕ
  pub between : PlayerView
  pub access : Steps kind v told between
  pub events : ℕ
  pub count : Steps ToAdvance between events w

-- the player makes this mark by an advance
pub record MarkMade (v : PlayerView) (mark : Mark) (w : PlayerView) : Type 0 where
  pub events : ℕ
  pub advance : Steps ToAdvance v events w
  pub is_next : next_in v ≡ Wants (MakeMark mark)
  pub journal : w.player.journal ≡ v.player.journal ++ Marked mark ∷ []

-- the player makes a mark that needs nothing of others, by an advance
pub record MakesOwnMark (v w : PlayerView) : Type 0 where
  pub mark : Mark
  pub is_next : next_in v ≡ Wants (MakeMark mark)
  pub alone : (whom needs : ℕ) → Needs v.log.threads mark whom needs → whom ≡ v.number
  pub events : ℕ
  pub advance : Steps ToAdvance v events w

-- the player makes a mark by an advance, after one look found what the mark needs of another
pub record MakesMark (v w : PlayerView) : Type 0 where
  pub mark : Mark
  pub is_next : next_in v ≡ Wants (MakeMark mark)
  pub whom : ℕ
  pub needs : ℕ
  pub needed : Needs v.log.threads mark whom needs
  pub other : whom ≢ v.number
  pub found : ℕ
  pub between : PlayerView
  pub look : Steps (ToLook whom) v found between
  pub enough : needs ≤ found
  pub no_stop : found ≢ stop_number
  pub events : ℕ
  pub advance : Steps ToAdvance between events w

-- the player's next event was made, by at most two steps
pub record MakesNext (v w : PlayerView) : Type 0 where
  pub event : Event
  pub value : ℕ
  pub is_next : event_next (next_in v) value ≡ Some event
  pub journal : w.player.journal ≡ v.player.journal ++ event ∷ []
  pub steps : MakesAccess v w ⊎ (MakesOwnMark v w ⊎ MakesMark v w)

-- the player looked once, and found too small a number
pub record WaitsFor (v : PlayerView) (whom needs found : ℕ) (w : PlayerView) : Type 0 where
  pub mark : Mark
  pub is_next : next_in v ≡ Wants (MakeMark mark)
  pub needed : Needs v.log.threads mark whom needs
  pub other : whom ≢ v.number
  pub look : Steps (ToLook whom) v found w
  pub fewer : found < needs
  pub no_stop : found ≢ stop_number

-- the player stops, after one look found the stop number in the word of a player that its mark needs
pub record StopsAt (v : PlayerView) (whom : ℕ) (w : PlayerView) : Type 0 where
  pub mark : Mark
  pub is_next : next_in v ≡ Wants (MakeMark mark)
  pub needs : ℕ
  pub needed : Needs v.log.threads mark whom needs
  pub other : whom ≢ v.number
  pub between : PlayerView
  pub look : Steps (ToLook whom) v stop_number between
  pub stop : Steps (ToStop (Stopped whom)) between stop_number w

-- the answer to a step of a player that plays
abbrev pub PlaysTo : PlayerView → Played → PlayerView → Type 0
PlaysTo v Made w = MakesNext v w
PlaysTo v (Waits whom needs found) w = WaitsFor v whom needs found w
PlaysTo v Through w = (w ≡ v) × (next_in v ≡ Finished)
PlaysTo v GoneAmiss w = IsAmissBy v.script v.log.threads v.number v.player.journal × Steps (ToStop Amiss) v stop_number w
PlaysTo v (HasStopped whom) w = StopsAt v whom w

-- the answer to a step of a player by its fate. One that is amiss or stopped takes no step
-- and gives the same answer again
abbrev pub StepsBy : Fate → PlayerView → Played → PlayerView → Type 0
StepsBy Playing v played w = PlaysTo v played w
StepsBy Amiss v played w = (w ≡ v) × (played ≡ GoneAmiss)
StepsBy (Stopped whom) v played w = (w ≡ v) × (played ≡ HasStopped whom)

-- the answer to a step of a player
abbrev pub StepsTo : PlayerView → Played → PlayerView → Type 0
StepsTo v played w = StepsBy v.player.fate v played w

-- the player of this number has taken no step
abbrev pub IsUnbegun : ℕ → Player → Type 0
IsUnbegun number player = ((view_of player).number ≡ number) × ((view_of player).player ≡ unbegun) × ((view_of player).trail ≡ [])

-- each player has its own number, and has taken no step
abbrev pub EachUnbegun : Field → List Player → Type 0
EachUnbegun field players = (number : ℕ) (none : Player) → number < length players → IsPlayerOf field (slice_index_or players number none) × IsUnbegun number (slice_index_or players number none)

-- the player is through, amiss or stopped
abbrev pub HasEnded : PlayerView → Type 0
HasEnded v = (v.player.fate ≡ Playing → next_in v ≡ Finished)

-- a step with an answer that says so leaves the player at its end
abbrev pub EndsBy : Played → PlayerView → Type 0
EndsBy Made w = Unit {0}
EndsBy (Waits whom needs found) w = Unit {0}
EndsBy _ w = HasEnded w

-- each player has its own number, and has ended
abbrev pub EachEnded : Field → List Player → Type 0
EachEnded field players = (number : ℕ) (none : Player) → number < length players
    → IsPlayerOf field (slice_index_or players number none) × ((view_of (slice_index_or players number none)).number ≡ number) × HasEnded (view_of (slice_index_or players number none))

-- the fate of the player at a place
abbrev pub fate_at : List Player → ℕ → Fate
fate_at [] place = Playing
fate_at (player ∷ players) zero = player.fate
fate_at (player ∷ players) (suc place) = fate_at players place

-- the fate of the player at a place, as its seat knows it
abbrev pub fate_in : List Player → ℕ → Fate
fate_in [] place = Playing
fate_in (player ∷ players) zero = (view_of player).player.fate
fate_in (player ∷ players) (suc place) = fate_in players place

-- one of the players is amiss or stopped
pub record SomeStopped (players : List Player) : Type 0 where
  pub number : ℕ
  pub within : number < length players
  pub stopped : fate_in players number ≢ Playing

-- all players play on
abbrev pub NoneStopped : List Player → Type 0
NoneStopped players = (number : ℕ) → number < length players → fate_in players number ≡ Playing

-- some thread is amiss after some lawful front
pub record SomeFrontIsAmiss (script : Script) (log : List ThreadLog) : Type 0 where
  pub front : List ℕ
  pub lawful : IsLawfulFront script log front
  pub thread : ℕ
  pub within : thread < length log
  pub amiss : IsAmissAfter script log front thread

-- the outcome and the journals are those of a lawful order
pub record IsFinishedReplay (script : Script) (log : List ThreadLog) (result : finished.Finished) : Type 0 where
  pub order : List ℕ
  pub lawful : IsLawfulOrder script log order
  pub journals : result.journals ≡ journals_after script log order
  pub outcome : result.outcome ≡ execution script log order

-- the journals of the players
abbrev pub journals_in : List Player → List (List Event)
journals_in players = map (λ player. (view_of player).player.journal) players

-- a closed field gives nothing exactly where a player is amiss or stopped.
-- Otherwise it gives the players' journals, which are those of a lawful order, and its outcome
abbrev pub ClosesTo : Script → List ThreadLog → List Player → Option finished.Finished → Type 0
ClosesTo script log players None = SomeStopped players × SomeFrontIsAmiss script log
ClosesTo script log players (Some result) = NoneStopped players × (result.journals ≡ journals_in players) × IsFinishedReplay script log result

-- a field closes after a run from its opening, in which each player took the steps of its trail and no others.
-- The heap that the field gives is that of the state after the run
pub record ClosesAfterRun (script : Script) (log : Log) (players : List Player) (closed : Option finished.Finished) : Type 0 where
  pub run : List PlayerStep
  pub is_run : IsRun (opening script log) run
  pub trails : (number : ℕ) (none : Player) → number < length players → steps_of number script log run ≡ (view_of (slice_index_or players number none)).trail
  pub heap : IfSome closed (λ result. result.outcome.heap ≡ (field_after script log run).cells)
