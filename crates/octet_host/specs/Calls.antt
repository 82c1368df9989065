-- What a call comes to, and where it leaves the thread.
use Rattle.std.specs.Prelude.{◌≡◌, ◌⊎◌, ◌<◌, ◌≤◌, ℕ, Option, Some, None, Result, Ok, Err, IfErr}
use Rattle.octet_recorder.specs.declared.access.Access.{Access}
use Rattle.octet_session.specs.declared.not_made.NotMade.{NotMade}
use Rattle.octet_session.specs.declared.not_made.NotMade.TheVariants.{Waits, NoRoom, Left}
use Rattle.octet_session.specs.Asking.{object_of, Asks}
use Rattle.octet_session.specs.Standing.{Standing, Keeps, BeginsRegion, GainsMarks}
use Rattle.octet_host.specs.declared.answer.Answer.{Answer}
use Rattle.octet_host.specs.declared.answer.Answer.TheVariants as answer
use Rattle.octet_host.specs.declared.stage.Stage.{Stage}
use Rattle.octet_host.specs.declared.stage.Stage.TheVariants.{Idle, Begun, Ended}
use Rattle.octet_host.specs.declared.misuse.Misuse.{Misuse}
use Rattle.octet_host.specs.declared.misuse.Misuse.TheVariants as misuse
use Rattle.octet_host.specs.Stages.{why_not_idle, why_not_resting}

-- the thread goes from one stage to another. It has made nothing
pub record Goes (from to s : Stage) (v : Standing) (t : Stage) (w : Standing) : Type 0 where
  pub before : s ≡ from
  pub after : t ≡ to
  pub keeps : Keeps v w

-- a region begins with the next access of a thread that runs
pub record BeginsNext (s : Stage) (v : Standing) (t : Stage) (w : Standing) : Type 0 where
  pub before : s ≡ Idle
  pub after : t ≡ Idle
  pub begins : BeginsRegion v w

-- a call is refused for this reason, and nothing has changed
pub record Refuses (Why : Misuse → Type 0) (said : Misuse) (s : Stage) (v : Standing) (t : Stage) (w : Standing) : Type 0 where
  pub why : Why said
  pub stage : t ≡ s
  pub standing : w ≡ v

-- a call whose thread is not to be started
abbrev pub IsNoRest : Stage → Misuse → Type 0
IsNoRest s said = why_not_resting s ≡ Some said

-- a call for a thread that runs and has begun nothing, of another thread
abbrev pub IsNotIdle : Stage → Misuse → Type 0
IsNotIdle s said = why_not_idle s ≡ Some said

-- a call without a value: it does this, or is refused for such a reason
abbrev pub Does : (Stage → Standing → Stage → Standing → Type 0) → (Stage → Misuse → Type 0) → Result (Unit {0}) Misuse → Stage → Standing → Stage → Standing → Type 0
Does Done Why (Ok nothing) s v t w = Done s v t w
Does Done Why (Err said) s v t w = Refuses (Why s) said s v t w

-- an answer in the words of a session: the access is made, or waits, or there is no room for it, or the thread goes on no more
abbrev pub made_of : {H : Type 0} → Answer H → Result ℕ (NotMade H)
made_of (answer.Ready value) = Ok value
made_of answer.Pending = Err Waits
made_of (answer.Refused said) = Err NoRoom
made_of (answer.Left halt) = Err (Left halt)

-- where a thread stands that has asked for an access: it has begun it where it waits
abbrev pub stage_asked : {H : Type 0} → Access → Answer H → Stage
stage_asked wanted (answer.Ready value) = Idle
stage_asked wanted answer.Pending = Begun wanted
stage_asked wanted (answer.Refused said) = Idle
stage_asked wanted (answer.Left halt) = Idle

-- an answer to one that has asked: nothing refuses it but want of room
abbrev pub IsOfAsking : {H : Type 0} → Answer H → Type 0
IsOfAsking (answer.Refused said) = said ≡ misuse.Spent
IsOfAsking _ = Unit {0}

-- what a session says of why an access was not made, or of why a thread has not ended
abbrev pub Reasons : Type 0 → Type 1
Reasons H = Option Access → NotMade H → Type 0

-- a thread has asked for an access. Where that is not made, its session has a reason
pub record AsksOn {H : Type 0} (Why : Reasons H) (wanted : Access) (v : Standing) (given : Answer H) (t : Stage) (w : Standing) : Type 0 where
  pub stage : t ≡ stage_asked wanted given
  pub only : IsOfAsking given
  pub asks : Asks wanted v (made_of given) w
  pub reason : IfErr (made_of given) (Why (Some wanted))

-- the end of a thread: the marks are made that are left, and it has ended as its session says; or one of them waits, or the
-- thread goes on no more, and the session has a reason
abbrev pub EndsOn : {H : Type 0} → Reasons H → Type 0 → Standing → Answer H → Stage → Standing → Type 0
EndsOn Why HasEnded v (answer.Ready value) t w = (t ≡ Ended) × HasEnded × GainsMarks v.journal w.journal
EndsOn Why HasEnded v answer.Pending t w = (t ≡ Idle) × Why None Waits × GainsMarks v.journal w.journal
EndsOn Why HasEnded v (answer.Refused said) t w = ⊥
EndsOn Why HasEnded v (answer.Left halt) t w = (t ≡ Idle) × Why None (Left halt) × GainsMarks v.journal w.journal

-- an answer is a refusal for such a reason
pub record Declines {H : Type 0} (Why : Misuse → Type 0) (s : Stage) (v : Standing) (given : Answer H) (t : Stage) (w : Standing) : Type 0 where
  pub said : Misuse
  pub is : given ≡ answer.Refused said
  pub refuses : Refuses Why said s v t w

-- why an access is not begun: the thread does not run, or has begun one; or the object is not there
abbrev pub MayNotAccess : ℕ → ℕ → Stage → Misuse → Type 0
MayNotAccess objects object s said = IsNotIdle s said ⊎ ((said ≡ misuse.NoSuchObject) × (objects ≤ object))

-- an access is begun
abbrev pub Accesses : {H : Type 0} → Reasons H → ℕ → Access → Stage → Standing → Answer H → Stage → Standing → Type 0
Accesses Why objects wanted s v given t w =
    Declines (MayNotAccess objects (object_of wanted) s) s v given t w ⊎ ((s ≡ Idle) × (object_of wanted < objects) × AsksOn Why wanted v given t w)

-- nothing is begun that could go on
abbrev pub HasBegunNothing : Stage → Misuse → Type 0
HasBegunNothing (Begun wanted) said = ⊥
HasBegunNothing _ said = said ≡ misuse.NotBegun

-- the access goes on that was begun
abbrev pub GoesOn : {H : Type 0} → Reasons H → Stage → Standing → Answer H → Stage → Standing → Type 0
GoesOn Why s v given t w = Declines (HasBegunNothing s) s v given t w ⊎ ((wanted : Access) × (s ≡ Begun wanted) × AsksOn Why wanted v given t w)

-- the thread ends
abbrev pub Ends : {H : Type 0} → Reasons H → Type 0 → Stage → Standing → Answer H → Stage → Standing → Type 0
Ends Why HasEnded s v given t w = Declines (IsNotIdle s) s v given t w ⊎ ((s ≡ Idle) × EndsOn Why HasEnded v given t w)
