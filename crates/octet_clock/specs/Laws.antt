-- The laws of fronts beside the lowest order and beside the log alone, as the public functions of laws.rt prove them.
use Rattle.std.specs.Prelude.{◌≡◌, ℕ, suc, ◌<◌, ◌⊎◌, ◌↔◌, IsTrue, List, ◌++◌, length}
use Rattle.octet_model.specs.declared.event.Event.{Event}
use Rattle.octet_model.specs.declared.event.Mark.TheVariants.{Draw, Fence}
use Rattle.octet_model.specs.declared.log.ThreadLog.{ThreadLog}
use Rattle.octet_model.specs.declared.script.Script.{Script}
use Rattle.octet_model.specs.Machine.{journal_of, Wants, MakeMark, next_of, may_step, IsFront}
use Rattle.octet_model.specs.HappensBefore.{IsOrdered}
use Rattle.octet_model.specs.Orders.{by_log, execution, journals_after, lowest_order, state_after, IsLawfulFront, IsLawfulOrder}
use Rattle.octet_clock.specs.Fronts.{OrdersConflicts, IsAmissAfter, IsDrawn, IsThroughAfter}
use Rattle.octet_clock.specs.Untied.{by_log_alone, opening_alone, IsUntied}

-- the journals of each lawful front are the first events of those of the lowest order,
-- where a log orders all conflicts
abbrev pub FrontsArePrefixes : Type 0
FrontsArePrefixes = (script : Script) (log : List ThreadLog) (front : List ℕ) (thread : ℕ)
    → OrdersConflicts script log → IsLawfulFront script log front
    → (more : List Event) × (journal_of (journals_after script log (lowest_order script log)) thread ≡ journal_of (journals_after script log front) thread ++ more)

-- no thread is amiss after a lawful front, where a log orders all conflicts
abbrev pub NoFrontIsAmiss : Type 0
NoFrontIsAmiss = (script : Script) (log : List ThreadLog) (front : List ℕ) (thread : ℕ)
    → OrdersConflicts script log → IsLawfulFront script log front → thread < length log
    → ¬ IsAmissAfter script log front thread

-- the journals of any lawful order are ordered exactly where the log orders all conflicts
abbrev pub OneOrderTells : Type 0
OneOrderTells = (script : Script) (log : List ThreadLog) (order : List ℕ)
    → IsLawfulOrder script log order → IsOrdered (journals_after script log order) ↔ OrdersConflicts script log

-- any lawful order has the execution and the journals of the lowest order, where the log orders all conflicts
abbrev pub OneOrderGives : Type 0
OneOrderGives = (script : Script) (log : List ThreadLog) (order : List ℕ)
    → IsLawfulOrder script log order → OrdersConflicts script log
    → (execution script log order ≡ execution script log (lowest_order script log)) × (journals_after script log order ≡ journals_after script log (lowest_order script log))

-- a lawful front is a lawful order exactly where each thread is through
abbrev pub WholeFrontIsOrder : Type 0
WholeFrontIsOrder = (script : Script) (log : List ThreadLog) (front : List ℕ)
    → IsLawfulFront script log front → ((thread : ℕ) → thread < length log → IsThroughAfter script log front thread) ↔ IsLawfulOrder script log front

-- a log that has a lawful order with some script is untied
abbrev pub LawfulLogIsUntied : Type 0
LawfulLogIsUntied = (script : Script) (log : List ThreadLog) (order : List ℕ) → IsLawfulOrder script log order → IsUntied log

-- each lawful front is a front of the log alone
abbrev pub FrontIsOfLog : Type 0
FrontIsOfLog = (script : Script) (log : List ThreadLog) (front : List ℕ)
    → IsLawfulFront script log front → IsFront (by_log_alone log) (opening_alone log) front

-- each thread is through after a lawful front of an untied log, or some thread may step, or some thread is amiss
abbrev pub UntiedFrontGoesOn : Type 0
UntiedFrontGoesOn = (script : Script) (log : List ThreadLog) (front : List ℕ)
    → IsUntied log → IsLawfulFront script log front
    → IsLawfulOrder script log front
    ⊎ ((thread : ℕ) × IsTrue (may_step (by_log script log) (state_after script log front) thread))
    ⊎ ((thread : ℕ) × (thread < length log) × IsAmissAfter script log front thread)

-- a draw of an untied log waits for the draw before it alone
abbrev pub UntiedDrawWaits : Type 0
UntiedDrawWaits = (script : Script) (log : List ThreadLog) (front : List ℕ) (thread number : ℕ)
    → IsUntied log → IsLawfulFront script log front → thread < length log
    → next_of (by_log script log) (state_after script log front) thread ≡ Wants (MakeMark (Draw (suc number)))
    → IsTrue (may_step (by_log script log) (state_after script log front) thread) ↔ ((number ≡ 0) ⊎ IsDrawn (journals_after script log front) number)

-- a fence of any log waits for the draw of its number alone
abbrev pub FenceWaits : Type 0
FenceWaits = (script : Script) (log : List ThreadLog) (front : List ℕ) (thread number : ℕ)
    → IsLawfulFront script log front → thread < length log
    → next_of (by_log script log) (state_after script log front) thread ≡ Wants (MakeMark (Fence number))
    → IsTrue (may_step (by_log script log) (state_after script log front) thread) ↔ ((number ≡ 0) ⊎ IsDrawn (journals_after script log front) number)
