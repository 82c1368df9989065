-- The fronts between which the last accesses lie, by the pieces of a marks file.
use Rattle.std.specs.Prelude.{◌≡◌, ℕ, ◌+◌, ◌-◌, ◌^◌, ◌≤◌, List, [], ◌∷◌, ◌++◌, length, map, get_or, sum_by}
use Rattle.octet_marks.specs.declared.piece.Piece.{Piece}
use Rattle.octet_marks.specs.declared.piece.Piece.TheVariants as pieces
use Rattle.octet_marks.specs.Counts.{events_at, accesses_at}
use Rattle.octet_model.specs.declared.log.Gapped.{Gapped}
use Rattle.octet_tail.specs.declared.finder.Untaken.{Untaken}
use Rattle.octet_tail.specs.declared.finder.Untaken.TheVariants.{ManyEvents, OutOfMemory}
use Rattle.octet_tail.specs.declared.placed.Placed.{Placed}
use Rattle.octet_tail.specs.declared.places.Come.{Come}
use Rattle.octet_tail.specs.Fronts.{after, asked_of, IsFinder, IsLeastFront}
use Rattle.octet_tail.specs.Merging.{of_thread}
use Rattle.octet_tail.specs.Places.{come_at}
use Rattle.octet_window.specs.declared.front.Front.{Front}
use Rattle.octet_window.specs.Fronts.{made_in}
use Rattle.octet_tail.specs.declared.finders.Finders.{Finders}
use Rattle.octet_tail.specs.declared.fronts.Fronts.{Fronts}
use Rattle.octet_tail.specs.declared.fronts.Span.{Span}

-- the mark of a thread that has come so far, behind its accesses
abbrev pub placed_at : ℕ → Come → Gapped → Placed
placed_at thread come gapped = record {
  thread = thread;
  events = come.events + gapped.gap + 1;
  accesses = come.accesses + gapped.gap;
  mark = gapped.mark;
}

-- how far a thread has come with this mark
abbrev pub come_to : Placed → Come
come_to placed = record { events = placed.events; accesses = placed.accesses }

-- where the marks of a block stand, if its thread has come so far before
abbrev pub placed_from : List Gapped → ℕ → Come → List Placed
placed_from [] thread come = []
placed_from (gapped ∷ marks) thread come = placed_at thread come gapped ∷ placed_from marks thread (come_to (placed_at thread come gapped))

-- how far a thread has come by these pieces
abbrev pub come_in : List Piece → ℕ → Come
come_in pieces thread = record { events = sum_by (events_at thread) pieces; accesses = sum_by (accesses_at thread) pieces }

-- where the marks of a piece stand that comes behind these
abbrev pub placed_of : List Piece → Piece → List Placed
placed_of before (pieces.Block block) = placed_from block.marks block.thread (come_in before block.thread)
placed_of before (pieces.Head head) = []
placed_of before (pieces.End end) = []

-- where the marks of pieces stand that come behind these
abbrev pub placed_behind : List Piece → List Piece → List Placed
placed_behind [] before = []
placed_behind (piece ∷ pieces) before = placed_of before piece ++ placed_behind pieces (before ++ piece ∷ [])

-- where the marks of a file stand that has these pieces
abbrev pub marks_in : List Piece → List Placed
marks_in pieces = placed_behind pieces []

-- all that threads have made but the last accesses of each
abbrev pub all_but : ℕ → List ℕ → List ℕ
all_but last made = map (λ many. many - last) made

-- the pieces were noted of threads that have made so many accesses: for the front that has all but the last ones, and for the
-- one that has all
pub record HaveNoted (made : List ℕ) (last : ℕ) (pieces : List Piece) (finders : Finders) : Type 0 where
  pub before_is : IsFinder (marks_in pieces) finders.before
  pub before_asked : asked_of finders.before ≡ all_but last made
  pub behind_is : IsFinder (marks_in pieces) finders.behind
  pub behind_asked : asked_of finders.behind ≡ made
  pub come : (thread : ℕ) → come_at finders.places thread ≡ come_in pieces thread

-- with all that was asked for the thread of the piece has too many events to be counted
abbrev pub AreMany : List ℕ → List Piece → Piece → Type 0
AreMany made before (pieces.Block block) = 2 ^ 64 ≤ sum_by (events_at block.thread) (before ++ pieces.Block block ∷ []) + get_or made block.thread 0
AreMany made before (pieces.Head head) = ⊥
AreMany made before (pieces.End end) = ⊥

-- why a piece is not noted
abbrev pub IsUnnoted : List ℕ → List Piece → Piece → Untaken → Type 0
IsUnnoted made before piece ManyEvents = AreMany made before piece
IsUnnoted made before piece OutOfMemory = Unit {0}

-- by the marks of these pieces the least front that has all accesses but the last ones, the least one that has all, and the marks
-- after the first one
pub record IsBetween (made : List ℕ) (last : ℕ) (pieces : List Piece) (fronts : Fronts) : Type 0 where
  pub before_is : IsLeastFront (all_but last made) (marks_in pieces) fronts.before
  pub behind_is : IsLeastFront made (marks_in pieces) fronts.behind
  pub marks_are : fronts.marks ≡ after fronts.before (marks_in pieces)
  pub come : (thread : ℕ) → come_at fronts.places thread ≡ come_in pieces thread

-- how many accesses of a thread a front has: all of its events that are no marks
abbrev pub accesses_before : Front → ℕ → List Placed → ℕ
accesses_before front thread marks = made_in front thread - length (of_thread thread front marks)

-- the accesses of a thread after the first front, which has made so many
pub record IsSpan (fronts : Fronts) (thread made : ℕ) (span : Span) : Type 0 where
  pub upto : span.upto ≡ made
  pub from : (all : List ℕ) (last : ℕ) (pieces : List Piece) → IsBetween all last pieces fronts → span.from ≡ accesses_before fronts.before thread (marks_in pieces)
