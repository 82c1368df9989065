-- What the check answers.
use Rattle.std.specs.Prelude.{◌≡◌, ℕ, ◌<◌, ◌↔◌, List, length, Option, Some, None}
use Rattle.octet_model.specs.declared.event.Place.{Place}
use Rattle.octet_model.specs.Machine.{Journals}
use Rattle.octet_model.specs.HappensBefore.{HappensBefore, Conflict, IsOrdered}
use Rattle.octet_clock.specs.declared.verdict.Verdict.{Verdict}
use Rattle.octet_clock.specs.declared.verdict.Verdict.TheVariants.{Ordered, Unordered}
use Rattle.octet_clock.specs.Play.{step_place, IsMadeBefore}

-- the event at the place is made by an earlier step, and conflicts with that of the step
pub record IsEarlierConflict (journals : Journals) (play : List ℕ) (index : ℕ) (place : Place) : Type 0 where
  pub earlier : IsMadeBefore play index place
  pub conflict : Conflict journals place (step_place play index)

-- each earlier conflicting event happens before the event of the step
abbrev pub FollowsConflicts : Journals → List ℕ → ℕ → Type 0
FollowsConflicts journals play index = (place : Place) → IsEarlierConflict journals play index place → HappensBefore journals place (step_place play index)

-- the place is the last earlier conflicting event of its thread, and does not happen before the step's event.
-- No lower thread has such an event
pub record IsUnorderedConflict (journals : Journals) (play : List ℕ) (index : ℕ) (first : Place) : Type 0 where
  pub is_earlier : IsEarlierConflict journals play index first
  pub apart : ¬ HappensBefore journals first (step_place play index)
  pub none_lower : (lower : Place) → lower.thread < first.thread → IsEarlierConflict journals play index lower → HappensBefore journals lower (step_place play index)
  pub none_later : (later : Place) → later.thread ≡ first.thread → first.event < later.event → ¬ IsEarlierConflict journals play index later

-- the second is the first event of the play with an earlier conflicting event that does not happen before it.
-- The first is that earlier event
pub record IsFirstUnordered (journals : Journals) (play : List ℕ) (first second : Place) : Type 0 where
  pub index : ℕ
  pub within : index < length play
  pub is_second : step_place play index ≡ second
  pub is_first : IsUnorderedConflict journals play index first
  pub none_sooner : (sooner : ℕ) → sooner < index → FollowsConflicts journals play sooner

-- the answer for a step: an earlier conflicting event that does not happen before its event, if there is one
abbrev pub UnorderedConflictIs : Journals → List ℕ → ℕ → Option Place → Type 0
UnorderedConflictIs journals play index None = FollowsConflicts journals play index
UnorderedConflictIs journals play index (Some first) = IsUnorderedConflict journals play index first

-- the verdict is right for the steps before an index
abbrev pub JudgedUpTo : Journals → List ℕ → ℕ → Verdict → Type 0
JudgedUpTo journals play index Ordered = (step : ℕ) → step < index → FollowsConflicts journals play step
JudgedUpTo journals play index (Unordered first second) = IsFirstUnordered journals play first second

-- the verdict is Ordered exactly where the journals are ordered. Otherwise it names the first unordered pair
pub record IsVerdict (journals : Journals) (play : List ℕ) (verdict : Verdict) : Type 0 where
  pub ordered : (verdict ≡ Ordered) ↔ IsOrdered journals
  pub unordered : (first second : Place) → verdict ≡ Unordered first second → IsFirstUnordered journals play first second
