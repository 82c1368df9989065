-- Which events a mark of a log needs.
use Rattle.std.specs.Prelude.{◌≡◌, ℕ, suc, pred, ◌-◌, ◌<◌, ◌==◌, nat_lt, if◌then◌else◌, List, [], ◌∷◌, Option, Some, None}
use Rattle.octet_model.specs.declared.event.Mark.{Mark}
use Rattle.octet_model.specs.declared.event.Mark.TheVariants.{Join, Draw, Fence}
use Rattle.octet_model.specs.declared.log.Gapped.{Gapped}
use Rattle.octet_model.specs.declared.log.ThreadLog.{ThreadLog}
use Rattle.octet_model.specs.Orders.{thread_log_of}

-- the mark that a thread's log has at a place among the thread's events, if it has one there
abbrev pub mark_at : List Gapped → ℕ → Option Mark
mark_at [] event = None
mark_at (next ∷ marks) event = if event == next.gap then Some next.mark else (if nat_lt next.gap event then mark_at marks (event - suc next.gap) else None)

-- the thread's log has this mark at this place
abbrev pub HasMarkAt : List ThreadLog → ℕ → ℕ → Mark → Type 0
HasMarkAt log thread event mark = mark_at (thread_log_of log thread).marks event ≡ Some mark

-- the mark needs so many events of that thread. A Join needs those that it names,
-- a Draw the draw before it, and a Fence the draw of its number
abbrev pub Needs : List ThreadLog → Mark → ℕ → ℕ → Type 0
Needs log (Join from upto) whom events = (whom ≡ from) × (events ≡ upto)
Needs log (Draw number) whom events = (1 < number) × (place : ℕ) × (events ≡ suc place) × HasMarkAt log whom place (Draw (pred number))
Needs log (Fence number) whom events = (0 < number) × (place : ℕ) × (events ≡ suc place) × HasMarkAt log whom place (Draw number)
