-- The front of a run that has what is asked for.
use Rattle.std.specs.Prelude.{◌≡◌, ◌⊎◌, ℕ, ◌+◌, ◌-◌, ◌^◌, ◌<◌, ◌≤◌, nat_lt, if◌then◌else◌, List, [], ◌∷◌, ◌++◌, length, take, get_or}
use Rattle.octet_model.specs.declared.event.Mark.{Mark}
use Rattle.octet_model.specs.declared.event.Mark.TheVariants.{Join, Draw, Fence}
use Rattle.octet_window.specs.declared.front.Front.{Front}
use Rattle.octet_window.specs.Fronts.{made_in}
use Rattle.octet_tail.specs.declared.finder.FrontFinder.{FrontFinder}
use Rattle.octet_tail.specs.declared.finder.Untaken.{Untaken}
use Rattle.octet_tail.specs.declared.finder.Untaken.TheVariants.{ManyEvents, OutOfMemory}
use Rattle.octet_tail.specs.declared.needs.Needs.{Needs}
use Rattle.octet_tail.specs.declared.placed.Placed.{Placed}

-- the front has at most what the other one has
pub record IsUpTo (front other : Front) : Type 0 where
  pub made : (thread : ℕ) → made_in front thread ≤ made_in other thread
  pub draws : front.draws ≤ other.draws

-- the front has what the mark waited for
abbrev pub HasMark : Front → Mark → Type 0
HasMark front (Join from upto) = upto ≤ made_in front from
HasMark front (Draw number) = number ≤ front.draws
HasMark front (Fence number) = number ≤ front.draws

-- the mark is a draw that the front has
abbrev pub IsDrawn : Front → Mark → Type 0
IsDrawn front (Draw number) = number ≤ front.draws
IsDrawn front _ = ⊥

-- the front has the mark
abbrev pub Has : Front → Placed → Type 0
Has front placed = placed.events ≤ made_in front placed.thread

-- how many events of its thread a front has that has the mark, with what is asked for after it
abbrev pub end_of : List ℕ → Placed → ℕ
end_of asked placed = placed.events + (get_or asked placed.thread 0 - placed.accesses)

-- the front is closed under the mark, and has it with the accesses after it, where so many are asked for
pub record Keeps (asked : List ℕ) (front : Front) (placed : Placed) : Type 0 where
  pub first : placed.accesses < get_or asked placed.thread 0 → end_of asked placed ≤ made_in front placed.thread
  pub before : Has front placed → HasMark front placed.mark
  pub drawn : IsDrawn front placed.mark → Has front placed

abbrev pub KeepsAll : List ℕ → Front → List Placed → Type 0
KeepsAll asked front [] = Unit {0}
KeepsAll asked front (placed ∷ marks) = Keeps asked front placed × KeepsAll asked front marks

-- the front is closed under the marks, and has the first accesses of each thread, so many as are asked for
pub record IsFrontFor (asked : List ℕ) (marks : List Placed) (front : Front) : Type 0 where
  pub first : (thread : ℕ) → get_or asked thread 0 ≤ made_in front thread
  pub keeps : KeepsAll asked front marks

-- and no other such front has less
pub record IsLeastFront (asked : List ℕ) (marks : List Placed) (front : Front) : Type 0 where
  pub is : IsFrontFor asked marks front
  pub least : (other : Front) → IsFrontFor asked marks other → IsUpTo front other

-- the marks after the front
abbrev pub after : Front → List Placed → List Placed
after front [] = []
after front (placed ∷ marks) = if nat_lt (made_in front placed.thread) placed.events then placed ∷ after front marks else after front marks

-- what a front has at least
abbrev pub front_of : Needs → Front
front_of needs = record { made = needs.made.items; draws = needs.draws }

abbrev pub needs_of : FrontFinder → Front
needs_of finder = front_of finder.needs

-- how many accesses of each thread are asked for
abbrev pub asked_of : FrontFinder → List ℕ
asked_of finder = finder.asked.items

-- a front that has this has the mark
abbrev pub IsCovered : Front → Placed → Type 0
IsCovered front placed = Has front placed ⊎ IsDrawn front placed.mark

-- this does not tell so
pub record IsOpen (front : Front) (placed : Placed) : Type 0 where
  pub later : made_in front placed.thread < placed.events
  pub undrawn : IsDrawn front placed.mark → ⊥

abbrev pub AreOpen : Front → List Placed → Type 0
AreOpen front [] = Unit {0}
AreOpen front (placed ∷ marks) = IsOpen front placed × AreOpen front marks

-- the front has the mark, what it waited for, and what is asked for of its thread
pub record IsSettled (asked : List ℕ) (front : Front) (placed : Placed) : Type 0 where
  pub first : placed.accesses < get_or asked placed.thread 0 → end_of asked placed ≤ made_in front placed.thread
  pub there : Has front placed
  pub mark : HasMark front placed.mark

-- all but the marks that are kept are settled. These are kept in order, and none of them comes before what is asked for
abbrev pub Sifts : List ℕ → Front → List Placed → List Placed → Type 0
Sifts asked front [] kept = kept ≡ []
Sifts asked front (placed ∷ marks) kept = (IsSettled asked front placed × Sifts asked front marks kept)
    ⊎ ((rest : List Placed) × (kept ≡ placed ∷ rest) × (get_or asked placed.thread 0 ≤ placed.accesses) × Sifts asked front marks rest)

-- the finder was given these marks, and what it has is the least that any front has for them
pub record IsFinder (marks : List Placed) (finder : FrontFinder) : Type 0 where
  pub first : (thread : ℕ) → get_or (asked_of finder) thread 0 ≤ made_in (needs_of finder) thread
  pub sifts : Sifts (asked_of finder) (needs_of finder) marks finder.kept.items
  pub least : (front : Front) → IsFrontFor (asked_of finder) marks front → IsUpTo (needs_of finder) front

-- why a mark is not taken: so many events cannot be counted, or memory was refused
abbrev pub IsUntaken : List ℕ → Placed → Untaken → Type 0
IsUntaken asked placed ManyEvents = 2 ^ 64 ≤ end_of asked placed
IsUntaken asked placed OutOfMemory = Unit {0}

-- a mark is let go where the front has it, and else kept. Where the front has it the front has what the mark waited for
pub record TakesIn (placed : Placed) (needs next : Front) : Type 0 where
  pub covered : IsCovered needs placed
  pub there : Has next placed
  pub mark : HasMark next placed.mark
  pub least : (front : Front) → IsUpTo needs front → Has front placed → HasMark front placed.mark → IsUpTo next front

abbrev pub OpensUp : Placed → Needs → List Placed → Needs → List Placed → Type 0
OpensUp placed needs kept next others =
    (TakesIn placed (front_of needs) (front_of next) × (others ≡ kept))
    ⊎ (IsOpen (front_of needs) placed × (next ≡ needs) × (others ≡ kept ++ placed ∷ []))

-- so many marks of these have been looked at, and these are kept
pub record IsRound (all : List Placed) (before now : Needs) (k : ℕ) (kept : List Placed) : Type 0 where
  pub upto : IsUpTo (front_of before) (front_of now)
  pub sifts : Sifts [] (front_of now) (take k all) kept
  pub least : (asked : List ℕ) (front : Front) → KeepsAll asked front all → IsUpTo (front_of before) front → IsUpTo (front_of now) front
  pub open_or_fewer : ((length kept ≡ k) × (now ≡ before) × AreOpen (front_of now) kept) ⊎ (length kept < k)
