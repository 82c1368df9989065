-- Moments from which no run comes to its end.
use Rattle.std.specs.Prelude.{◌≡◌, ℕ, suc, Bool, true, false, ◌<◌, ◌≤◌, List, [], ◌∷◌, length, get_or}
use Rattle.octet_model.specs.declared.script.Script.{Script}
use Rattle.octet_outcomes.specs.declared.search.Searched.{Searched}
use Rattle.octet_outcomes.specs.declared.stuck.Stuck.{Stuck}
use Rattle.octet_outcomes.specs.Alike.{AreAlike}
use Rattle.octet_outcomes.specs.Moments.{Moment, no_moment, first_moment, AllDone}
use Rattle.octet_outcomes.specs.Runs.{Follows, IsReached}

-- some accesses lead from the moment to one in which all threads are done
pub record LeadsToEnd (script : Script) (m : Moment) : Type 0 where
  pub last : Moment
  pub picks : List ℕ
  pub follows : Follows script m picks last
  pub done : AllDone script last

-- no accesses do
abbrev pub IsStuck : Script → Moment → Type 0
IsStuck script m = (picks : List ℕ) (last : Moment) → Follows script m picks last → AllDone script last → ⊥

-- by the picks a run comes to a stuck moment
pub record LeadsToStuck (script : Script) (picks : List ℕ) : Type 0 where
  pub last : Moment
  pub follows : Follows script (first_moment script) picks last
  pub stuck : IsStuck script last

-- each moment that was found was gone on from
abbrev pub IsWhole : Searched → Type 0
IsWhole found = length found.moments.moments ≤ length found.edges.rows

-- each moment is marked that is an end or was not gone on from. Where there is none of the latter, each marked one leads to an end
pub record AreMarks (script : Script) (found : Searched) (marks : List Bool) : Type 0 where
  pub len : length marks ≡ length found.moments.moments
  pub ends : (place : ℕ) → place < length marks → AllDone script (get_or found.moments.moments place no_moment) → get_or marks place false ≡ true
  pub rest : (place : ℕ) → place < length marks → length found.edges.rows ≤ place → get_or marks place false ≡ true
  pub leads : (place : ℕ) → place < length marks → get_or marks place false ≡ true → IsWhole found → LeadsToEnd script (get_or found.moments.moments place no_moment)

-- no edge of the moment at the place leads to a marked one
abbrev pub IsApart : Script → Searched → List Bool → ℕ → Type 0
IsApart script found marks place = (thread after : ℕ) → thread < length script.threads → get_or (get_or found.edges.rows place []) thread 0 ≡ suc after → get_or marks after false ≡ false

-- so of each of the first so many that is not marked
abbrev pub AreApart : Script → Searched → List Bool → ℕ → Type 0
AreApart script found marks many = (place : ℕ) → place < many → get_or marks place false ≡ false → IsApart script found marks place

-- marks are right, and no edge leads from a moment that is not marked to one that is
pub record IsSettled (script : Script) (found : Searched) (marks : List Bool) : Type 0 where
  pub right : AreMarks script found marks
  pub apart : AreApart script found marks (length marks)

-- how many are not marked
abbrev pub left_in : List Bool → ℕ
left_in [] = 0
left_in (true ∷ marks) = left_in marks
left_in (false ∷ marks) = suc (left_in marks)

-- the moment that is named is like a stuck one; where all was found and there is none, every moment leads to an end
pub record IsCounted (script : Script) (found : Searched) (stuck : Stuck) : Type 0 where
  pub there : 0 < stuck.count → stuck.first < length found.moments.moments
  pub some : 0 < stuck.count → (m : Moment) → AreAlike script m (get_or found.moments.moments stuck.first no_moment) → IsStuck script m
  pub none : IsWhole found → stuck.count ≡ 0 → (m : Moment) → IsReached script m → LeadsToEnd script m
