-- What is gathered of a past from the marks of a log, in terms of the journals.
use Rattle.std.specs.Prelude.{◌≡◌, ℕ, pred, ◌^◌, ◌<◌, ◌≤◌, List, length, Some}
use Rattle.octet_model.specs.declared.event.Event.TheVariants.{Marked}
use Rattle.octet_model.specs.declared.event.Mark.{Mark}
use Rattle.octet_model.specs.declared.event.Mark.TheVariants.{Join, Draw, Fence}
use Rattle.octet_model.specs.declared.event.Place.{Place}
use Rattle.octet_model.specs.declared.log.ThreadLog.{ThreadLog}
use Rattle.octet_model.specs.Journals.{log_of}
use Rattle.octet_model.specs.Machine.{Journals, journal_of}
use Rattle.octet_model.specs.HappensBefore.{event_at}
use Rattle.octet_model.specs.Past.{InPast}
use Rattle.octet_slice.specs.code.Cursors.{IsCursorOf}
use Rattle.octet_slice.specs.code.Reached.{Gathered, count_of, reach_of}

-- the journals are those of a log, and none is too long. Joins name events that are there,
-- draws have numbers of at least 1, and each thread's draws are in order
pub record AreOfLog (journals : Journals) (log : List ThreadLog) : Type 0 where
  pub is_log : log ≡ log_of journals
  pub short : (thread : ℕ) → length (journal_of journals thread) < 2 ^ 32
  pub joins : (join : Place) (from upto : ℕ) → event_at journals join ≡ Some (Marked (Join from upto)) → upto ≤ length (journal_of journals from)
  pub numbered : (draw : Place) (number : ℕ) → event_at journals draw ≡ Some (Marked (Draw number)) → 1 ≤ number
  pub rising : (thread sooner later first then : ℕ) → sooner < later
      → event_at journals (record { thread = thread; event = sooner }) ≡ Some (Marked (Draw first)) → event_at journals (record { thread = thread; event = later }) ≡ Some (Marked (Draw then)) → first < then

-- the events before a mark are gathered: those that a Join names, and the draws before a Draw or up to a Fence
abbrev pub IsTakenIn : Gathered → Mark → Type 0
IsTakenIn g (Join from upto) = upto ≤ count_of g.threads from
IsTakenIn g (Draw number) = pred number ≤ g.draws
IsTakenIn g (Fence number) = number ≤ g.draws

-- all that is gathered lies in the past of a thread's first events, and has these. The events before each mark taken in
-- are gathered, and each draw that was searched past is
pub record IsPartOfPast (journals : Journals) (thread now : ℕ) (g : Gathered) : Type 0 where
  pub as_many : length g.threads ≡ length journals
  pub whole : now ≤ count_of g.threads thread
  pub in_past : (place : Place) → place.event < count_of g.threads place.thread → InPast journals thread now place
  pub draws_in : (place : Place) (number : ℕ) → event_at journals place ≡ Some (Marked (Draw number)) → number ≤ g.draws → InPast journals thread now place
  pub taken_in : (of : ℕ) → IsCursorOf (journal_of journals of) (reach_of g.threads of).taken_in
  pub taken_in_within : (of : ℕ) → (reach_of g.threads of).taken_in.events ≤ count_of g.threads of
  pub searched : (of : ℕ) → IsCursorOf (journal_of journals of) (reach_of g.threads of).searched
  pub taken : (place : Place) (mark : Mark) → place.event < (reach_of g.threads place.thread).taken_in.events → event_at journals place ≡ Some (Marked mark) → IsTakenIn g mark
  pub passed : (place : Place) (number : ℕ) → place.event < (reach_of g.threads place.thread).searched.events → event_at journals place ≡ Some (Marked (Draw number)) → place.event < count_of g.threads place.thread

-- all marks among a thread's gathered events are taken in
abbrev pub HasMarks : Journals → Gathered → ℕ → Type 0
HasMarks journals g thread = (event : ℕ) (mark : Mark) → event < count_of g.threads thread → event_at journals (record { thread = thread; event = event }) ≡ Some (Marked mark) → event < (reach_of g.threads thread).taken_in.events

-- all draws of the thread up to the gathered number are searched past
abbrev pub HasDraws : Journals → Gathered → ℕ → Type 0
HasDraws journals g thread = (event number : ℕ) → event_at journals (record { thread = thread; event = event }) ≡ Some (Marked (Draw number)) → number ≤ g.draws → event < (reach_of g.threads thread).searched.events

-- the marks of a thread ask for nothing more to be gathered
pub record IsSettled (journals : Journals) (g : Gathered) (thread : ℕ) : Type 0 where
  pub marks : HasMarks journals g thread
  pub draws : HasDraws journals g thread

-- all of a past is gathered
pub record GathersPast (journals : Journals) (thread now : ℕ) (g : Gathered) : Type 0 where
  pub part : IsPartOfPast journals thread now g
  pub settled : (of : ℕ) → of < length journals → IsSettled journals g of
