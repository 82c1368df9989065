-- Where the threads of a front stand, and which logs order all conflicts.
use Rattle.std.specs.Prelude.{◌≡◌, ℕ, ◌⊎◌, List, length, Some, None, slice_get}
use Rattle.octet_model.specs.declared.event.Event.{Event}
use Rattle.octet_model.specs.declared.event.Event.TheVariants.{Marked}
use Rattle.octet_model.specs.declared.event.Mark.TheVariants.{Draw}
use Rattle.octet_model.specs.declared.event.Place.{Place}
use Rattle.octet_model.specs.declared.log.ThreadLog.{ThreadLog}
use Rattle.octet_model.specs.declared.script.Script.{Script}
use Rattle.octet_model.specs.Thread.{AccessOrEnd, demanded, configuration_after, starting_configuration}
use Rattle.octet_model.specs.Machine.{Journals, journal_of}
use Rattle.octet_model.specs.HappensBefore.{event_at, IsOrdered}
use Rattle.octet_model.specs.Journals.{access_count, mark_count, gap_after, due_mark}
use Rattle.octet_model.specs.Orders.{commands_of, thread_log_of, journals_after, lowest_order, IsLawfulOrder}
use Rattle.octet_replay.specs.Judged.{DemandsEnd, EndsEarly, GoesOn}

-- the log orders all conflicts: its lowest order is lawful, and the journals of this order are ordered
abbrev pub OrdersConflicts : Script → List ThreadLog → Type 0
OrdersConflicts script log = IsLawfulOrder script log (lowest_order script log) × IsOrdered (journals_after script log (lowest_order script log))

-- what a thread demands after its journal
abbrev pub demand_after : Script → ℕ → List Event → AccessOrEnd
demand_after script thread journal = demanded (commands_of script thread) (configuration_after (commands_of script thread) (starting_configuration script.fuel) journal)

-- the thread is through: it demands its end, and no access and no mark of its log is left
pub record IsThrough (demand : AccessOrEnd) (log : ThreadLog) (journal : List Event) : Type 0 where
  pub ends : DemandsEnd demand
  pub accesses : access_count journal ≡ log.accesses
  pub marks : mark_count journal ≡ length log.marks

-- the thread is amiss: it demands its end where an access is next by its log,
-- or demands an access where nothing is left of its log
abbrev pub IsAmiss : AccessOrEnd → ThreadLog → List Event → Type 0
IsAmiss demand log journal =
    (EndsEarly demand log journal × (due_mark (slice_get log.marks (mark_count journal)) (gap_after 0 journal) ≡ None))
    ⊎ GoesOn demand log journal

-- the thread is through after a front
abbrev pub IsThroughAfter : Script → List ThreadLog → List ℕ → ℕ → Type 0
IsThroughAfter script log front thread =
    let journal = journal_of (journals_after script log front) thread in IsThrough (demand_after script thread journal) (thread_log_of log thread) journal

-- the thread is amiss after a front
abbrev pub IsAmissAfter : Script → List ThreadLog → List ℕ → ℕ → Type 0
IsAmissAfter script log front thread =
    let journal = journal_of (journals_after script log front) thread in IsAmiss (demand_after script thread journal) (thread_log_of log thread) journal

-- the draw of the number is made
abbrev pub IsDrawn : Journals → ℕ → Type 0
IsDrawn journals number = (place : Place) × (event_at journals place ≡ Some (Marked (Draw number)))
