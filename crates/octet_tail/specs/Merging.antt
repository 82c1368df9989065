-- What a thread makes in a window.
use Rattle.std.specs.Prelude.{ℕ, ◌-◌, ◌++◌, List, [], ◌∷◌, take, drop, max, if◌then◌else◌, ◌&&◌, ◌==◌, nat_le}
use Rattle.octet_model.specs.declared.event.Event.{Event}
use Rattle.octet_model.specs.declared.event.Event.TheVariants.{Marked}
use Rattle.octet_window.specs.declared.front.Front.{Front}
use Rattle.octet_window.specs.Fronts.{made_in, shifted}
use Rattle.octet_tail.specs.declared.placed.Placed.{Placed}

-- of these marks those of the thread that the front has
abbrev pub of_thread : ℕ → Front → List Placed → List Placed
of_thread thread upto [] = []
of_thread thread upto (placed ∷ marks) =
    if (placed.thread == thread) && nat_le placed.events (made_in upto thread) then placed ∷ of_thread thread upto marks else of_thread thread upto marks

-- accesses of a thread, which has made so many before them, and its marks, each in its place and as it stands after the front
abbrev pub merged : Front → ℕ → List Event → List Placed → List Event
merged front come accesses [] = accesses
merged front come accesses (placed ∷ marks) =
    take (placed.accesses - come) accesses ++ Marked (shifted front placed.mark) ∷ merged front (max come placed.accesses) (drop (placed.accesses - come) accesses) marks
