-- Where the draws of a log stand, as a table by their numbers.
use Rattle.std.specs.Prelude.{◌≡◌, ◌≢◌, ℕ, zero, suc, pred, ◌+◌, ◌<◌, max, List, [], ◌∷◌, Option, Some, None, slice_get, slice_set}
use Rattle.octet_model.specs.declared.event.Mark.{Mark}
use Rattle.octet_model.specs.declared.event.Mark.TheVariants.{Draw}
use Rattle.octet_model.specs.declared.log.Gapped.{Gapped}
use Rattle.octet_model.specs.declared.log.ThreadLog.{ThreadLog}
use Rattle.octet_parallel.specs.Needs.{HasMarkAt, Needs}
use Rattle.octet_parallel.specs.declared.draws.PlayerEvents.{PlayerEvents}

-- the entry of a number whose draw is not known
abbrev pub unknown : PlayerEvents
unknown = record { whom = 0; events = 0 }

-- the number that a mark draws, 0 where it draws none
abbrev pub drawn_number : Mark → ℕ
drawn_number (Draw number) = number
drawn_number _ = 0

-- the highest number drawn among marks, or this one where it is higher
abbrev pub highest_of : List Gapped → ℕ → ℕ
highest_of [] before = before
highest_of (next ∷ marks) before = highest_of marks (max before (drawn_number next.mark))

-- the highest number drawn in the logs, or this one where it is higher
abbrev pub highest_in : List ThreadLog → ℕ → ℕ
highest_in [] before = before
highest_in (log ∷ logs) before = highest_in logs (highest_of log.marks before)

-- the table with a draw at a place of a thread noted under its number, where there is room for it
abbrev pub noted : List PlayerEvents → ℕ → ℕ → Mark → List PlayerEvents
noted draws thread place (Draw zero) = draws
noted draws thread place (Draw (suc number)) = slice_set draws number (record { whom = thread; events = place + 1 })
noted draws thread place _ = draws

-- the table with all draws noted of a thread's marks, from a place on
abbrev pub noted_all : List PlayerEvents → ℕ → ℕ → List Gapped → List PlayerEvents
noted_all draws thread place [] = draws
noted_all draws thread place (next ∷ marks) = noted_all (noted draws thread (place + next.gap) next.mark) thread (place + next.gap + 1) marks

-- the table with all draws noted of the threads from a number on
abbrev pub noted_of : List PlayerEvents → ℕ → List ThreadLog → List PlayerEvents
noted_of draws thread [] = draws
noted_of draws thread (log ∷ logs) = noted_of (noted_all draws thread 0 log.marks) (suc thread) logs

-- the draw of the number is the last of so many events of the thread
abbrev pub IsDrawOf : List ThreadLog → ℕ → PlayerEvents → Type 0
IsDrawOf log number needed = (0 < needed.events) × HasMarkAt log needed.whom (pred needed.events) (Draw number)

-- the table has each draw of the log under its number less 1, and no other
abbrev pub AreDraws : List ThreadLog → List PlayerEvents → Type 0
AreDraws log draws =
    ((whom place number : ℕ) → HasMarkAt log whom place (Draw (suc number)) → slice_get draws number ≡ Some (record { whom = whom; events = suc place }))
    × ((number : ℕ) (needed : PlayerEvents) → slice_get draws number ≡ Some needed → 0 < needed.events → IsDrawOf log (suc number) needed)

-- the place of the draw of a number, if the log has one
abbrev pub IsWhereDrawn : List ThreadLog → ℕ → Option PlayerEvents → Type 0
IsWhereDrawn log number None = (whom place : ℕ) → ¬ HasMarkAt log whom place (Draw number)
IsWhereDrawn log number (Some needed) = IsDrawOf log number needed × ((whom place : ℕ) → HasMarkAt log whom place (Draw number) → (whom ≡ needed.whom) × (suc place ≡ needed.events))

-- the need of a thread's mark of another thread, if it has one
abbrev pub IsNeedOf : List ThreadLog → ℕ → Mark → Option PlayerEvents → Type 0
IsNeedOf log thread mark None = (whom events : ℕ) → Needs log mark whom events → whom ≡ thread
IsNeedOf log thread mark (Some needed) =
    Needs log mark needed.whom needed.events × (needed.whom ≢ thread)
    × ((whom events : ℕ) → Needs log mark whom events → (whom ≡ needed.whom) × (events ≡ needed.events))
