-- The law on replaying a part, as a public function of laws.rt proves it.
use Rattle.std.specs.Prelude.{◌≡◌, ℕ, List}
use Rattle.octet_model.specs.declared.script.Script.{Script}
use Rattle.octet_model.specs.declared.log.ThreadLog.{ThreadLog}
use Rattle.octet_model.specs.Journals.{log_of}
use Rattle.octet_model.specs.HappensBefore.{IsOrdered}
use Rattle.octet_model.specs.Orders.{journals_after, lowest_order, IsLawfulOrder}
use Rattle.octet_slice.specs.FirstEvents.{first_events, IsClosed}

-- first events that are closed under edges are made by themselves as among all: the lowest order of their log
-- makes these very events. The journals are those of a lawful order, and ordered
abbrev pub ClosedEventsReplayAlone : Type 0
ClosedEventsReplayAlone = (script : Script) (log : List ThreadLog) (order counts : List ℕ)
    → IsLawfulOrder script log order → IsOrdered (journals_after script log order) → IsClosed (journals_after script log order) counts
    → journals_after script (log_of (first_events counts (journals_after script log order))) (lowest_order script (log_of (first_events counts (journals_after script log order))))
    ≡ first_events counts (journals_after script log order)
