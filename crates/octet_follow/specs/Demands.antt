-- A thread that asks for what it demands stays one that did.
use Rattle.std.specs.Prelude.{◌≡◌, ℕ, List, [], ◌∷◌, ◌++◌}
use Rattle.octet_model.specs.declared.event.Event.{Event}
use Rattle.octet_model.specs.declared.event.Event.TheVariants.{Marked}
use Rattle.octet_model.specs.declared.event.Mark.{Mark}
use Rattle.octet_rule.specs.Changes.{changed_by}
use Rattle.octet_follow.specs.declared.access.Access.{Access}
use Rattle.octet_follow.specs.declared.access.Access.TheVariants.{Read, Write, Update}
use Rattle.octet_follow.specs.Views.{FollowerView}
use Rattle.octet_follow.specs.Calls.{Makes, MakesMarks}
use Rattle.octet_follow.specs.Recordings.{Demand, ToRead, ToWrite, ToUpdate, IsDemandedBy}

-- the access as what a thread demands
abbrev pub demand_of : Access → Demand
demand_of (Read object) = ToRead object
demand_of (Write object value) = ToWrite object value
demand_of (Update object change) = ToUpdate object (changed_by change)

-- what the thread does follows from the values that it was told: marks are nothing to it
abbrev pub IgnoresMarks : (List Event → Demand) → Type 0
IgnoresMarks thread = (journal : List Event) (mark : Mark) → thread (journal ++ Marked mark ∷ []) ≡ thread journal

-- a thread that has asked for what it demands, and does so now, has done so after its access is made
abbrev pub MakingKeepsDemanded : Type 0
MakingKeepsDemanded = (thread : List Event → Demand) (access : Access) (v w : FollowerView) (value : ℕ)
    → IgnoresMarks thread → IsDemandedBy thread v.follower.journal → thread v.follower.journal ≡ demand_of access
    → Makes access v value w → IsDemandedBy thread w.follower.journal

-- after marks alone it has done so too, and demands the same again
abbrev pub HaltingKeepsDemanded : Type 0
HaltingKeepsDemanded = (thread : List Event → Demand) (v w : FollowerView)
    → IgnoresMarks thread → IsDemandedBy thread v.follower.journal → MakesMarks v w
    → IsDemandedBy thread w.follower.journal × (thread w.follower.journal ≡ thread v.follower.journal)
