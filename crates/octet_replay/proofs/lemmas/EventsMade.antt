-- The mark that is due, and what an operation makes.
use Rattle.std.proofs.Common.{◌≡◌, ℕ, suc, ◌+◌, ◌≤◌, Bool, true, false, if◌then◌else◌, eqb, List, [], ◌∷◌, length, Option, Some, None, slice_index, refl, arith, length-set}
use Rattle.octet_model.specs.declared.event.Event.{Event}
use Rattle.octet_model.specs.declared.event.Event.TheVariants.{Read, Write, Update, Marked}
use Rattle.octet_model.specs.declared.event.Mark.{Mark}
use Rattle.octet_model.specs.declared.log.Gapped.{Gapped}
use Rattle.octet_model.specs.Journals.{access_count, gap_after, due_mark}
use Rattle.octet_model.specs.Machine.{PlainState, Operation, MakeMark, MakeRead, MakeWrite, MakeUpdate, is_enabled, event_made, heap_after, draws_after}
use Rattle.octet_model.specs.Plays.{operation_of}

-- two operations that may be made alike, and come to the same on this heap
pub record DoAlike (one other : Operation) (heap : List ℕ) : Type 0 where
  pub enabled : (s : PlainState) → is_enabled s one ≡ is_enabled s other
  pub event : event_made one heap ≡ event_made other heap
  pub heap_is : heap_after one heap ≡ heap_after other heap
  pub draws : (made : ℕ) → draws_after one made ≡ draws_after other made

-- an operation does as that of the event that it makes
pub do_alike : (operation : Operation) (heap : List ℕ) → DoAlike (operation_of (event_made operation heap)) operation heap
do_alike (MakeMark mark) heap = record { enabled = λ s. refl; event = refl; heap_is = refl; draws = λ made. refl }
do_alike (MakeRead object) heap = record { enabled = λ s. refl; event = refl; heap_is = refl; draws = λ made. refl }
do_alike (MakeWrite object value) heap = record { enabled = λ s. refl; event = refl; heap_is = refl; draws = λ made. refl }
do_alike (MakeUpdate object change) heap = record { enabled = λ s. refl; event = refl; heap_is = refl; draws = λ made. refl }

-- the heap has as many objects after it as before
pub same_length : (operation : Operation) (heap : List ℕ) → length (heap_after operation heap) ≡ length heap
same_length (MakeMark mark) heap = refl
same_length (MakeRead object) heap = refl
same_length (MakeWrite object value) heap = length-set heap object value
same_length (MakeUpdate object change) heap = length-set heap object (change (slice_index heap object))

-- a mark that is due stands next in the log
pub due_there : (o : Option Gapped) (gap : ℕ) (mark : Mark) → due_mark o gap ≡ Some mark → (g : Gapped) × (o ≡ Some g) × (g.mark ≡ mark)
due_there None gap mark is = absurd cc
due_there (Some g) gap mark is = (g, refl, go (eqb g.gap gap) is)
  where
    go : (b : Bool) → ◌≡◌ {A = Option Mark} (if b then Some g.mark else None) (Some mark) → g.mark ≡ mark
    go true is' = cc
    go false is' = absurd cc

-- the accesses since the last mark are no more than all
pub gap_within : (before : ℕ) (journal : List Event) → gap_after before journal ≤ before + access_count journal
gap_within before [] = omega arith
gap_within before (Read object value ∷ journal) = omega (arith, gap_within (suc before) journal)
gap_within before (Write object value ∷ journal) = omega (arith, gap_within (suc before) journal)
gap_within before (Update object old new ∷ journal) = omega (arith, gap_within (suc before) journal)
gap_within before (Marked mark ∷ journal) = omega (arith, gap_within 0 journal)
