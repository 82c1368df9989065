-- Endings: the final heaps of runs, and the ways to them.
use Rattle.std.specs.Prelude.{◌≡◌, ℕ, ◌<◌, List, [], length, get_or, map}
use Rattle.std.specs.List.{All}
use Rattle.octet_model.specs.declared.script.Script.{Script}
use Rattle.octet_outcomes.specs.declared.endings.Ending.{Ending}
use Rattle.octet_outcomes.specs.Moments.{Moment, no_moment, first_moment, AllDone}
use Rattle.octet_outcomes.specs.Runs.{Follows, IsListed}

-- by the picks a run comes to a moment in which all threads are done, and this is its heap
pub record IsEnding (script : Script) (ending : Ending) : Type 0 where
  pub last : Moment
  pub follows : Follows script (first_moment script) ending.picks last
  pub done : AllDone script last
  pub leaves : last.heap ≡ ending.heap

abbrev pub heap_of : Ending → List ℕ
heap_of ending = ending.heap

-- the ending that is not there
abbrev pub no_ending : Ending
no_ending = record { heap = []; picks = [] }

-- the heap of the moment at a place
abbrev pub heap_at : List Moment → ℕ → List ℕ
heap_at moments place = (get_or moments place no_moment).heap

-- all threads are done in the moment at the place
abbrev pub IsEnd : Script → List Moment → ℕ → Type 0
IsEnd script moments place = (place < length moments) × AllDone script (get_or moments place no_moment)

-- places of ends, among which is the heap of each end at one of the first so many places
pub record AreEnds (script : Script) (moments : List Moment) (many : ℕ) (places : List ℕ) : Type 0 where
  pub ends : All (IsEnd script moments) places
  pub listed : IsListed script moments many (map (heap_at moments) places)
