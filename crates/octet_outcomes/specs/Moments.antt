-- Moments of a run: where each thread stands, and the heap. What follows a moment.
use Rattle.std.specs.Prelude.{◌≡◌, ℕ, ◌<◌, ◌≤◌, List, [], ◌∷◌, length, get_or, map, Option, Some, None, slice_index, slice_set}
use Rattle.std.specs.List.{All}
use Rattle.octet_model.specs.declared.command.Command.{Command}
use Rattle.octet_model.specs.declared.script.Script.{Script}
use Rattle.octet_model.specs.Thread.{added, settled, starting_configuration}
use Rattle.octet_model.specs.Orders.{starting_heap, commands_of}
use Rattle.octet_interp.specs.declared.demand.Demand.{Demand}
use Rattle.octet_interp.specs.declared.demand.Demand.TheVariants.{Read, Write, Bump}
use Rattle.octet_interp.specs.declared.program.Stand.{Stand}
use Rattle.octet_interp.specs.Standing.{ThreadProgram, access_at, stand_of, stand_past}
use Rattle.octet_outcomes.specs.Rows.{Grows}

-- where each thread stands, at its next access or its end, and the heap
pub record Moment : Type 0 where
  pub stands : List Stand
  pub heap : List ℕ

-- where a thread stands that is not there
abbrev pub no_stand : Stand
no_stand = record { place = 0; registers = [] }

-- where a thread stands
abbrev pub stand_in : Moment → ℕ → Stand
stand_in m thread = get_or m.stands thread no_stand

-- the value that an access gives its thread: that of the object, for a read
abbrev pub value_given : Demand → List ℕ → ℕ
value_given (Read object) heap = slice_index heap object
value_given _ heap = 0

-- the heap after an access
abbrev pub heap_past : Demand → List ℕ → List ℕ
heap_past (Write object value) heap = slice_set heap object value
heap_past (Bump object amount) heap = slice_set heap object (added amount (slice_index heap object))
heap_past _ heap = heap

-- where a thread stands after this access, if there is one. It goes on to its next access or its end,
-- or as far as it gets by this fuel
abbrev pub stand_after : List Command → ℕ → Stand → List ℕ → Option Demand → Option Stand
stand_after commands fuel stand heap None = None
stand_after commands fuel stand heap (Some demand) = Some (stand_past commands fuel stand (value_given demand heap))

-- the heap after this access, if there is one
abbrev pub heap_after : Option Demand → List ℕ → List ℕ
heap_after None heap = heap
heap_after (Some demand) heap = heap_past demand heap

-- the moment in which a thread stands elsewhere, if it does, on this heap
abbrev pub moved : Moment → ℕ → List ℕ → Option Stand → Option Moment
moved m thread heap None = None
moved m thread heap (Some stand) = Some (record { stands = slice_set m.stands thread stand; heap = heap })

-- the moment after the next access of a thread with these commands, if it stands at one
abbrev pub next_by : List Command → ℕ → Moment → ℕ → Option Moment
next_by commands fuel m thread =
    let access = access_at commands (stand_in m thread) in
    moved m thread (heap_after access m.heap) (stand_after commands fuel (stand_in m thread) m.heap access)

-- the same, by the script
abbrev pub next_moment : Script → Moment → ℕ → Option Moment
next_moment script m thread = next_by (commands_of script thread) script.fuel m thread

-- the moment before the first access
abbrev pub first_moment : Script → Moment
first_moment script = record {
  stands = map (λ commands. stand_of (settled commands (starting_configuration script.fuel))) script.threads;
  heap = starting_heap script;
}

-- every thread has no command left
abbrev pub AllDone : Script → Moment → Type 0
AllDone script m = (thread : ℕ) → thread < length script.threads → length (commands_of script thread) ≤ (stand_in m thread).place

-- the moment that a row names: the number of its heap, and then the number of where each thread stands
abbrev pub moment_of : List Stand → List (List ℕ) → List ℕ → Moment
moment_of stands heaps [] = record { stands = []; heap = [] }
moment_of stands heaps (heap ∷ numbers) = record { stands = map (λ number. get_or stands number no_stand) numbers; heap = get_or heaps heap [] }

-- the numbers of a row are those of so many stands and so many heaps
abbrev pub IsRowOf : ℕ → ℕ → List ℕ → Type 0
IsRowOf stands heaps [] = ⊥
IsRowOf stands heaps (heap ∷ numbers) = (heap < heaps) × All (λ number. number < stands) numbers

-- moments of so many threads, on a heap of so many objects
pub record MomentsState : Type 0 where
  pub threads : ℕ
  pub objects : ℕ
  pub moments : List Moment

-- the moment that is not there
abbrev pub no_moment : Moment
no_moment = record { stands = []; heap = [] }

-- the moment is one of those, at this place, and no other moment came
pub record AddsMoment (before : MomentsState) (m : Moment) (place : ℕ) (after : MomentsState) : Type 0 where
  pub there : place < length after.moments
  pub is : get_or after.moments place no_moment ≡ m
  pub grows : Grows before.moments m after.moments
  pub same_threads : after.threads ≡ before.threads
  pub same_objects : after.objects ≡ before.objects

-- the rows name the moments as before, with this moment at this place, which may be new
pub record Names (stands : List Stand) (heaps rows : List (List ℕ)) (m : Moment) (place : ℕ) (stands_after : List Stand) (heaps_after rows_after : List (List ℕ)) : Type 0 where
  pub there : place < length rows_after
  pub is : moment_of stands_after heaps_after (get_or rows_after place []) ≡ m
  pub grows : Grows (map (moment_of stands heaps) rows) m (map (moment_of stands_after heaps_after) rows_after)

-- where the thread of a program stands at its start, with this fuel
abbrev pub start_of : ℕ → ThreadProgram → Stand
start_of fuel program = stand_of (settled program.commands (starting_configuration fuel))
