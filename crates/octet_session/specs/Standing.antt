-- How a thread of a session stands between two calls.
use Rattle.std.specs.Prelude.{◌≡◌, ℕ, Bool, true, List, ◌++◌, map, Option, Some, None}
use Rattle.octet_model.specs.declared.event.Event.{Event}
use Rattle.octet_model.specs.declared.event.Event.TheVariants.{Marked}
use Rattle.octet_model.specs.declared.event.Mark.{Mark}
use Rattle.octet_recorder.specs.declared.access.Access.{Access}
use Rattle.octet_rerun.specs.Reruns.{Begins}

-- how a thread stands: its number, the marks and accesses that it has made, the access that it has begun,
-- whether a region begins with the next one, and how many more lines its recording may have, if there is a bound
pub record Standing : Type 0 where
  pub number : ℕ
  pub journal : List Event
  pub begun : Option Access
  pub region : Bool
  pub left : Option ℕ

-- the thread has made nothing and noted nothing
pub record Keeps (v w : Standing) : Type 0 where
  pub number : w.number ≡ v.number
  pub journal : w.journal ≡ v.journal
  pub begun : w.begun ≡ None
  pub region : w.region ≡ v.region
  pub left : w.left ≡ v.left

-- a region begins with the thread's next access
pub record BeginsRegion (v w : Standing) : Type 0 where
  pub number : w.number ≡ v.number
  pub journal : w.journal ≡ v.journal
  pub begun : w.begun ≡ None
  pub region : w.region ≡ true
  pub left : w.left ≡ v.left

-- a journal grows by marks alone
pub record GainsMarks (before after : List Event) : Type 0 where
  pub marks : List Mark
  pub grown : after ≡ before ++ map (λ mark. Marked mark) marks

-- what a thread has made is the beginning of what was recorded of it, if it is run again
abbrev pub Follows : Option (List Event) → List Event → Type 0
Follows None journal = Unit {0}
Follows (Some recorded) journal = Begins journal recorded
