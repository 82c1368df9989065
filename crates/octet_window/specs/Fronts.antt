-- A front of a run, and what comes after it.
use Rattle.std.specs.Prelude.{◌≡◌, ℕ, ◌-◌, List, [], ◌∷◌, ◌++◌, drop, get_or, length, map}
use Rattle.octet_model.specs.declared.event.Event.{Event}
use Rattle.octet_model.specs.declared.event.Event.TheVariants.{Read, Write, Update, Marked}
use Rattle.octet_model.specs.declared.event.Mark.{Mark}
use Rattle.octet_model.specs.declared.event.Mark.TheVariants.{Join, Draw, Fence}
use Rattle.octet_model.specs.Machine.{Journals, journal_of}
use Rattle.octet_model.specs.Plays.{MakesAll, IsOneHistory, state_after_play}
use Rattle.octet_window.specs.declared.front.Front.{Front}

-- how many events the front has of a thread
abbrev pub made_in : Front → ℕ → ℕ
made_in front thread = get_or front.made thread 0

-- the mark as it stands after the front: it counts events and draws from there. One that waits for what the front has
-- waits for nothing more
abbrev pub shifted : Front → Mark → Mark
shifted front (Join from upto) = Join from (upto - made_in front from)
shifted front (Draw number) = Draw (number - front.draws)
shifted front (Fence number) = Fence (number - front.draws)

-- the event as it stands after the front
abbrev pub event_after : Front → Event → Event
event_after front (Read object value) = Read object value
event_after front (Write object value) = Write object value
event_after front (Update object before after) = Update object before after
event_after front (Marked mark) = Marked (shifted front mark)

-- what a thread makes after the front, of which it has made so many events
abbrev pub journal_after : Front → ℕ → List Event → List Event
journal_after front made journal = map (event_after front) (drop made journal)

-- what threads make after the front, of which they have made so many events each
abbrev pub journals_after : Front → List ℕ → Journals → Journals
journals_after front mades [] = []
journals_after front [] (journal ∷ journals) = journal_after front 0 journal ∷ journals_after front [] journals
journals_after front (made ∷ mades) (journal ∷ journals) = journal_after front made journal ∷ journals_after front mades journals

-- what all threads make after the front
abbrev pub rest_of : Front → Journals → Journals
rest_of front journals = journals_after front front.made journals

-- the front at which threads have made these journals, with so many draws
abbrev pub front_at : Journals → ℕ → Front
front_at journals draws = record { made = map (λ journal. length journal) journals; draws = draws }

-- each thread has made the first events of its journal
pub record AreBeginnings (earlier whole : Journals) : Type 0 where
  pub many : length earlier ≡ length whole
  pub each : (thread : ℕ) → (later : List Event) × (journal_of whole thread ≡ journal_of earlier thread ++ later)

-- what is left of one history after a front that some play comes to has one history, from the values at the front on,
-- with the same last values
abbrev pub RestIsHistory : Type 0
RestIsHistory = (starts : List ℕ) (whole earlier : Journals) (last : List ℕ) (draws : ℕ) (play : List ℕ)
    → IsOneHistory starts whole last draws → AreBeginnings earlier whole → MakesAll starts earlier play
    → let at = state_after_play starts earlier play in
    IsOneHistory at.heap (rest_of (front_at earlier at.draws) whole) last (draws - at.draws)
