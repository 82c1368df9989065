-- The marks of a thread among all.
use Rattle.std.specs.Prelude.{ℕ, ◌==◌, List, [], ◌∷◌, if◌then◌else◌}
use Rattle.octet_tail.specs.declared.placed.Placed.{Placed}

-- of these marks those of the thread
abbrev pub own_of : ℕ → List Placed → List Placed
own_of thread [] = []
own_of thread (placed ∷ marks) = if placed.thread == thread then placed ∷ own_of thread marks else own_of thread marks
