-- The steps of players: each reads or changes one word, and changes the player that takes it.
use Rattle.std.specs.Prelude.{◌≡◌, ℕ, ◌<◌, ◌⊎◌, Bool, true, false, if◌then◌else◌, IsTrue, List, [], ◌∷◌, ◌++◌, length, Option, Some, None, slice_set, slice_index}
use Rattle.octet_model.specs.declared.event.Mark.{Mark}
use Rattle.octet_model.specs.declared.event.Event.{Event}
use Rattle.octet_model.specs.declared.event.Event.TheVariants.{Read, Write, Update, Marked}
use Rattle.octet_model.specs.declared.script.Script.{Script}
use Rattle.octet_model.specs.declared.log.ThreadLog.{ThreadLog}
use Rattle.octet_model.specs.Thread.{added}
use Rattle.octet_model.specs.Machine.{Next, Wants, MakeMark, MakeRead, MakeWrite, MakeUpdate, is_enabled, heap_after}
use Rattle.octet_model.specs.Orders.{thread_log_of}
use Rattle.octet_clock.specs.Fronts.{demand_after, IsAmiss}
use Rattle.octet_parallel.specs.declared.fate.Fate.{Fate}
use Rattle.octet_parallel.specs.declared.fate.Fate.TheVariants.{Playing, Amiss, Stopped}
use Rattle.octet_parallel.specs.State.{PlayerState, FieldState, player_of, found_of, stop_number, progress, next_of_player, plain}

-- the kinds of step that a player takes. Splits and joins of players are none of them:
-- they change no word and no player
pub data Kind : Type 0 where
  -- the player loads the progress word of another
  ToLook : (whom : ℕ) → Kind
  -- the player loads the cell
  ToRead : Kind
  -- the player puts a value in the place of the cell's, and is told the cell's
  ToWrite : Kind
  -- the player adds an amount to the cell
  ToBump : Kind
  -- the player stores to its own progress word: it makes a mark, or counts the access that it has made
  ToAdvance : Kind
  -- the player stores the stop number to its own progress word
  ToStop : (fate : Fate) → Kind

-- the object of an operation
abbrev pub target : Next → ℕ
target (Wants (MakeRead object)) = object
target (Wants (MakeWrite object value)) = object
target (Wants (MakeUpdate object change)) = object
target _ = 0

-- the event that what is next makes, where its cell had this value
abbrev pub event_next : Next → ℕ → Option Event
event_next (Wants (MakeMark mark)) value = Some (Marked mark)
event_next (Wants (MakeRead object)) value = Some (Read object value)
event_next (Wants (MakeWrite object new)) value = Some (Write object new)
event_next (Wants (MakeUpdate object change)) value = Some (Update object value (change value))
event_next _ value = None

-- the event that a step adds, if it adds one, by what is next and the word told
abbrev pub made : Kind → Next → ℕ → PlayerState → Option Event
made ToRead next told p = event_next next told
made ToWrite next told p = event_next next told
made ToBump next told p = event_next next told
made ToAdvance next told p = if p.owes then None else event_next next told
made _ next told p = None

-- the journal with this event at its end, if there is one
abbrev pub with_event : List Event → Option Event → List Event
with_event journal None = journal
with_event journal (Some event) = journal ++ event ∷ []

-- what a player owes after a step: an access owes its count, and an advance pays it
abbrev pub owes_after : Kind → Bool → Bool
owes_after ToRead owes = true
owes_after ToWrite owes = true
owes_after ToBump owes = true
owes_after ToAdvance owes = false
owes_after _ owes = owes

-- the fate of a player after a step, which only a stop changes
abbrev pub fate_after : Kind → Fate → Fate
fate_after (ToStop fate) before = fate
fate_after _ before = before

-- what a player has found after a step: a look keeps what it found
abbrev pub found_after : Kind → ℕ → List (ℕ × ℕ) → List (ℕ × ℕ)
found_after (ToLook whom) told found = (whom, told) ∷ found
found_after _ told found = found

-- the player after its step, by what was next and the word told
abbrev pub after : Kind → Next → ℕ → PlayerState → PlayerState
after k next told p = record {
  journal = with_event p.journal (made k next told p);
  owes = owes_after k p.owes;
  fate = fate_after k p.fate;
  found = found_after k told p.found;
}

-- the word that a step finds in its place
abbrev pub word_found : Kind → ℕ → FieldState → ℕ
word_found (ToLook whom) t s = progress (player_of s whom)
word_found ToRead t s = slice_index s.cells (target (next_of_player s t))
word_found ToWrite t s = slice_index s.cells (target (next_of_player s t))
word_found ToBump t s = slice_index s.cells (target (next_of_player s t))
word_found _ t s = progress (player_of s t)

-- the word that a step is told: what it finds, or what it stores
abbrev pub told : Kind → ℕ → FieldState → ℕ
told ToAdvance t s = length (after ToAdvance (next_of_player s t) 0 (player_of s t)).journal
told (ToStop fate) t s = stop_number
told k t s = word_found k t s

-- the cells after a step, which only an access changes
abbrev pub cells_after : Kind → Next → List ℕ → List ℕ
cells_after ToRead (Wants operation) cells = heap_after operation cells
cells_after ToWrite (Wants operation) cells = heap_after operation cells
cells_after ToBump (Wants operation) cells = heap_after operation cells
cells_after _ next cells = cells

-- the front after a step: one that adds an event puts its player last
abbrev pub front_after : List ℕ → ℕ → Option Event → List ℕ
front_after front t None = front
front_after front t (Some event) = front ++ t ∷ []

-- the state after the player's step
abbrev pub step : Kind → ℕ → FieldState → FieldState
step k t s = record {
  script = s.script;
  log = s.log;
  front = front_after s.front t (made k (next_of_player s t) (told k t s) (player_of s t));
  players = slice_set s.players t (after k (next_of_player s t) (told k t s) (player_of s t));
  cells = cells_after k (next_of_player s t) s.cells;
}

-- the player is amiss by its own journal, as a thread of a front is
abbrev pub IsAmissBy : Script → List ThreadLog → ℕ → List Event → Type 0
IsAmissBy script log thread journal = IsAmiss (demand_after script thread journal) (thread_log_of log thread) journal

-- the reason why a player stops: it is amiss, or it has found the stop number
abbrev pub StopsAs : FieldState → ℕ → Fate → Type 0
StopsAs s t Playing = ⊥
StopsAs s t Amiss = IsAmissBy s.script s.log.threads t (player_of s t).journal
StopsAs s t (Stopped whom) = found_of (player_of s t) whom ≡ stop_number

-- a read is next
abbrev pub IsRead : Next → Type 0
IsRead (Wants (MakeRead object)) = Unit {0}
IsRead _ = ⊥

-- a write is next
abbrev pub IsWrite : Next → Type 0
IsWrite (Wants (MakeWrite object value)) = Unit {0}
IsWrite _ = ⊥

-- an update that adds this amount is next
abbrev pub IsBump : ℕ → Next → Type 0
IsBump amount next = (object : ℕ) × (next ≡ Wants (MakeUpdate object (added amount)))

-- the player plays, and owes nothing
abbrev pub IsFree : PlayerState → Type 0
IsFree p = (p.fate ≡ Playing) × (p.owes ≡ false)

-- the player may take the step: it plays and owes nothing, and the step is that of what is next.
-- A player that owes may count its access
abbrev pub May : Kind → ℕ → FieldState → Type 0
May (ToLook whom) t s = IsFree (player_of s t) × (whom < length s.players)
May ToRead t s = IsFree (player_of s t) × IsRead (next_of_player s t)
May ToWrite t s = IsFree (player_of s t) × IsWrite (next_of_player s t)
May ToBump t s = IsFree (player_of s t) × (amount : ℕ) × IsBump amount (next_of_player s t)
May ToAdvance t s =
    ((player_of s t).owes ≡ true)
    ⊎ (IsFree (player_of s t) × (mark : Mark) × (next_of_player s t ≡ Wants (MakeMark mark)) × IsTrue (is_enabled (plain s) (MakeMark mark)))
May (ToStop fate) t s = IsFree (player_of s t) × StopsAs s t fate
