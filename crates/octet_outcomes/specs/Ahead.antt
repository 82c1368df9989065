-- What a look for the next moment finds.
use Rattle.std.specs.Prelude.{◌≡◌, ℕ, List, Option, Some, None, slice_set}
use Rattle.octet_model.specs.declared.command.Command.{Command}
use Rattle.octet_interp.specs.declared.program.Stand.{Stand}
use Rattle.octet_interp.specs.Standing.{access_at}
use Rattle.octet_outcomes.specs.Alike.{StandAlike}
use Rattle.octet_outcomes.specs.Moments.{Moment, MomentsState, stand_in, stand_after, heap_after, AddsMoment}

-- a thread goes on alike from both stands, or there is neither
abbrev pub MayStandAlike : List Command → ℕ → Option Stand → Option Stand → Type 0
MayStandAlike commands fuel None None = Unit {0}
MayStandAlike commands fuel (Some stand) (Some kept) = StandAlike commands fuel stand kept
MayStandAlike commands fuel None (Some kept) = ⊥
MayStandAlike commands fuel (Some stand) None = ⊥

-- the moment in which the thread goes on alike from another stand, on this heap, is added at the place
pub record AddsLike (commands : List Command) (fuel : ℕ) (before : MomentsState) (m : Moment) (thread : ℕ) (heap : List ℕ) (stand : Stand) (place : ℕ) (after : MomentsState) : Type 0 where
  pub kept : Stand
  pub alike : StandAlike commands fuel stand kept
  pub adds : AddsMoment before (record { stands = slice_set m.stands thread kept; heap = heap }) place after

-- where a thread stands elsewhere then, a moment is added for that, and its place answered; else nothing changes
abbrev pub Finds : List Command → ℕ → MomentsState → Moment → ℕ → List ℕ → Option Stand → Option ℕ → MomentsState → Type 0
Finds commands fuel before m thread heap None None after = after ≡ before
Finds commands fuel before m thread heap (Some stand) (Some place) after = AddsLike commands fuel before m thread heap stand place after
Finds commands fuel before m thread heap None (Some place) after = ⊥
Finds commands fuel before m thread heap (Some stand) None after = ⊥

-- the same of the next access of a thread with these commands
abbrev pub FindsNext : List Command → ℕ → MomentsState → Moment → ℕ → Option ℕ → MomentsState → Type 0
FindsNext commands fuel before m thread found after =
    let access = access_at commands (stand_in m thread) in
    Finds commands fuel before m thread (heap_after access m.heap) (stand_after commands fuel (stand_in m thread) m.heap access) found after
