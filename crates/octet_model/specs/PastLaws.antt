-- The laws of paths and pasts, as the public functions of laws.rt prove them.
use Rattle.std.specs.Prelude.{◌≡◌, ℕ, ◌<◌, ◌≤◌, ◌⊎◌, IsTrue, List, Some, length}
use Rattle.octet_model.specs.declared.event.Mark.TheVariants.{Join, Draw, Fence}
use Rattle.octet_model.specs.declared.event.Event.{Event}
use Rattle.octet_model.specs.declared.event.Event.TheVariants.{Marked}
use Rattle.octet_model.specs.declared.event.Place.{Place}
use Rattle.octet_model.specs.Machine.{Journals, journal_of, is_enabled, event_made, appended}
use Rattle.octet_model.specs.HappensBefore.{event_at, IsEvent, HappensBefore}
use Rattle.octet_model.specs.Plays.{operation_of, IsOneHistory}
use Rattle.octet_model.specs.Past.{Reaches, InPast, DrawsDiffer}

-- paths stay when the journals grow by one event
abbrev pub PathsStay : Type 0
PathsStay = (journals : Journals) (thread : ℕ) (event : Event) (a b : Place)
    → HappensBefore journals a b → HappensBefore (appended journals thread event) a b

-- an event in a past stays in it when journals grow by one event
abbrev pub PastsStay : Type 0
PastsStay = (journals : Journals) (grown : ℕ) (event : Event) (thread now : ℕ) (place : Place)
    → InPast journals thread now place → InPast (appended journals grown event) thread now place

-- no event comes into a past when journals of one history grow by an event that their heap and marks allow
abbrev pub PastsGainNothing : Type 0
PastsGainNothing = (starts : List ℕ) (journals : Journals) (heap : List ℕ) (draws grown : ℕ) (event : Event) (thread now : ℕ) (place : Place)
    → IsOneHistory starts journals heap draws → grown < length journals
    → IsTrue (is_enabled (record { heap = heap; journals = journals; draws = draws }) (operation_of event)) → event_made (operation_of event) heap ≡ event
    → now ≤ length (journal_of journals thread)
    → InPast (appended journals grown event) thread now place → InPast journals thread now place

-- the first events of a thread lie in their past
abbrev pub PastHasOwn : Type 0
PastHasOwn = (journals : Journals) (now : ℕ) (place : Place)
    → IsEvent journals place → place.event < now → InPast journals place.thread now place

-- an event of a past happens before each later event of the thread
abbrev pub PastHappensBefore : Type 0
PastHappensBefore = (journals : Journals) (now : ℕ) (place later : Place)
    → InPast journals later.thread now place → now ≤ later.event → IsEvent journals later → HappensBefore journals place later

-- what happens before an event of a past lies in that past
abbrev pub PastIsClosed : Type 0
PastIsClosed = (journals : Journals) (thread now : ℕ) (earlier place : Place)
    → HappensBefore journals earlier place → InPast journals thread now place → InPast journals thread now earlier

-- the past of fewer events lies in that of more
abbrev pub PastGrows : Type 0
PastGrows = (journals : Journals) (thread sooner now : ℕ) (place : Place)
    → sooner ≤ now → InPast journals thread sooner place → InPast journals thread now place

-- the past of the events that a Join names lies in the past of its thread after the Join
abbrev pub PastHasJoined : Type 0
PastHasJoined = (journals : Journals) (now from upto : ℕ) (join place : Place)
    → join.event < now → event_at journals join ≡ Some (Marked (Join from upto)) → upto ≤ length (journal_of journals from)
    → InPast journals from upto place → InPast journals join.thread now place

-- the past of a thread after a Draw or a Fence has the draws up to its number, each with its own past.
-- No two draws may have one number
abbrev pub PastHasDraws : Type 0
PastHasDraws = (journals : Journals) (now number upto : ℕ) (seen draw place : Place)
    → DrawsDiffer journals → seen.event < now
    → (event_at journals seen ≡ Some (Marked (Draw upto))) ⊎ (event_at journals seen ≡ Some (Marked (Fence upto)))
    → event_at journals draw ≡ Some (Marked (Draw number)) → number ≤ upto
    → Reaches journals place draw → InPast journals seen.thread now place

-- no two draws of one history have one number
abbrev pub DrawsDifferInHistory : Type 0
DrawsDifferInHistory = (starts : List ℕ) (journals : Journals) (heap : List ℕ) (draws : ℕ) → IsOneHistory starts journals heap draws → DrawsDiffer journals
