-- Runs by picks, and what a search through all of them finds.
use Rattle.std.specs.Prelude.{◌≡◌, ℕ, ◌<◌, List, [], ◌∷◌, length, get_or, Some, Contains}
use Rattle.octet_model.specs.declared.script.Script.{Script}
use Rattle.octet_model.specs.Orders.{commands_of}
use Rattle.octet_interp.specs.Standing.{ThreadProgram}
use Rattle.octet_outcomes.specs.Alike.{AreAlike}
use Rattle.octet_outcomes.specs.Moments.{Moment, MomentsState, no_moment, next_moment, first_moment, AllDone}

-- the moment comes after this one by accesses of these threads, one after another
abbrev pub Follows : Script → Moment → List ℕ → Moment → Type 0
Follows script m [] after = after ≡ m
Follows script m (thread ∷ picks) after = (thread < length script.threads) × ((between : Moment) × (next_moment script m thread ≡ Some between) × Follows script between picks after)

-- by the picks a run comes to a moment like this one
pub record IsLedTo (script : Script) (picks : List ℕ) (m : Moment) : Type 0 where
  pub last : Moment
  pub follows : Follows script (first_moment script) picks last
  pub like : AreAlike script last m

-- some run comes to this moment
pub record IsReached (script : Script) (m : Moment) : Type 0 where
  pub picks : List ℕ
  pub follows : Follows script (first_moment script) picks m

-- some run comes to this heap, and all its threads are done
pub record IsOutcome (script : Script) (heap : List ℕ) : Type 0 where
  pub last : Moment
  pub reached : IsReached script last
  pub done : AllDone script last
  pub leaves : last.heap ≡ heap

-- these are all heaps to which any run comes whose threads are all done
abbrev pub AreAllOutcomes : Script → List (List ℕ) → Type 0
AreAllOutcomes script heaps = (heap : List ℕ) → IsOutcome script heap → Contains heaps heap

-- a program that is not there
abbrev pub no_program : ThreadProgram
no_program = record { commands = []; objects = 0 }

-- the programs of the threads of a script
pub record AreProgramsOf (script : Script) (programs : List ThreadProgram) : Type 0 where
  pub len : length programs ≡ length script.threads
  pub commands : (thread : ℕ) → thread < length script.threads → (get_or programs thread no_program).commands ≡ commands_of script thread
  pub objects : (thread : ℕ) → thread < length script.threads → (get_or programs thread no_program).objects ≡ length script.objects

-- moments of so many threads on so many objects
pub record AreMomentsOf (script : Script) (s : MomentsState) : Type 0 where
  pub threads : s.threads ≡ length script.threads
  pub objects : s.objects ≡ length script.objects

-- the heaps have that of each of the first so many moments in which all threads are done
abbrev pub IsListed : Script → List Moment → ℕ → List (List ℕ) → Type 0
IsListed script moments places heaps =
    (place : ℕ) → place < places → AllDone script (get_or moments place no_moment) → Contains heaps (get_or moments place no_moment).heap
