-- What a search through the moments of a script found.
use Rattle.std.specs.Prelude.{◌≡◌, ◌≢◌, ◌⊎◌, ℕ, suc, ◌<◌, ◌≤◌, ◌==◌, Bool, true, List, [], length, get_or, Option, None, Some}
use Rattle.octet_model.specs.declared.script.Script.{Script}
use Rattle.octet_outcomes.specs.declared.search.Searched.{Searched}
use Rattle.octet_outcomes.specs.declared.tree.Step.{Step}
use Rattle.octet_outcomes.specs.Alike.{Leads}
use Rattle.octet_outcomes.specs.Alone.{IsAlone}
use Rattle.octet_outcomes.specs.Moments.{Moment, no_moment, next_moment, first_moment}
use Rattle.octet_outcomes.specs.Runs.{AreMomentsOf, AreProgramsOf}

-- the step leads from an earlier place to this one
pub record IsStep (script : Script) (moments : List Moment) (place : ℕ) (step : Step) : Type 0 where
  pub earlier : step.from < place
  pub thread : step.thread < length script.threads
  pub leads : Leads script moments (get_or moments step.from no_moment) step.thread place

-- the step that is not there
abbrev pub no_step : Step
no_step = record { from = 0; thread = 0 }

-- the first moment was there at first, and each other one was found by its step. Further steps say nothing
pub record AreFound (script : Script) (moments : List Moment) (steps : List Step) : Type 0 where
  pub len : length moments ≤ length steps
  pub some : 0 < length moments
  pub first : get_or moments 0 no_moment ≡ first_moment script
  pub made : (place : ℕ) → 0 < place → place < length moments → IsStep script moments place (get_or steps place no_step)

-- the edge leads where the access of a thread leads; none is there only where the thread makes none
pub record IsEdge (script : Script) (moments : List Moment) (m : Moment) (thread edge : ℕ) : Type 0 where
  pub none : edge ≡ 0 → next_moment script m thread ≡ None
  pub right : (place : ℕ) → edge ≡ suc place → Leads script moments m thread place

-- a thread that stands alone is the only one that is followed
abbrev pub is_followed : Option ℕ → ℕ → Bool
is_followed None thread = true
is_followed (Some only) thread = only == thread

-- the edge leads where the access of the thread leads. A thread that is followed has none only where it makes no access
pub record MayBeEdge (script : Script) (moments : List Moment) (m : Moment) (only : Option ℕ) (thread edge : ℕ) : Type 0 where
  pub none : is_followed only thread ≡ true → edge ≡ 0 → next_moment script m thread ≡ None
  pub right : (place : ℕ) → edge ≡ suc place → Leads script moments m thread place

-- some thread stands alone, and has an edge
pub record HasAlone (script : Script) (m : Moment) (edges : List ℕ) : Type 0 where
  pub thread : ℕ
  pub there : thread < length script.threads
  pub alone : IsAlone script m thread
  pub edge : get_or edges thread 0 ≢ 0

-- the edges of a moment lead where accesses lead: those of all threads, or that of one which stands alone
pub record AreEdges (script : Script) (moments : List Moment) (m : Moment) (edges : List ℕ) : Type 0 where
  pub right : (thread place : ℕ) → thread < length script.threads → get_or edges thread 0 ≡ suc place → Leads script moments m thread place
  pub enough : ((thread : ℕ) → thread < length script.threads → get_or edges thread 0 ≡ 0 → next_moment script m thread ≡ None) ⊎ HasAlone script m edges

-- so at each place that was gone on from
abbrev pub AreLed : Script → List Moment → List (List ℕ) → Type 0
AreLed script moments rows = (place : ℕ) → place < length rows → AreEdges script moments (get_or moments place no_moment) (get_or rows place [])

-- moments of a script, the edges from the first so many of them, and the ways to all
pub record IsSearched (script : Script) (found : Searched) : Type 0 where
  pub programs : AreProgramsOf script found.guides.items
  pub moments : AreMomentsOf script found.moments
  pub ways : AreFound script found.moments.moments found.tree.steps.items
  pub width : found.edges.width ≡ length script.threads
  pub led : AreLed script found.moments.moments found.edges.rows
  pub within : length found.edges.rows ≤ length found.moments.moments

-- moments may have come at the end
abbrev pub Extends : List Moment → List Moment → Type 0
Extends before after = (length before ≤ length after) × ((place : ℕ) → place < length before → get_or after place no_moment ≡ get_or before place no_moment)

-- one more than the place, if there is one, and else 0
abbrev pub IsNumberOf : Option ℕ → ℕ → Type 0
IsNumberOf None number = number ≡ 0
IsNumberOf (Some place) number = number ≡ suc place
