-- What nobody has made while a follower does not show its last access.
use Rattle.std.specs.Prelude.{◌≡◌, ℕ, suc, length}
use Rattle.octet_model.specs.declared.event.Place.{Place}
use Rattle.octet_model.specs.HappensBefore.{HappensBefore}
use Rattle.octet_follow.specs.State.{CourseState, journals_of}
use Rattle.octet_follow.specs.Views.{FollowerView}
use Rattle.octet_follow.specs.Rule.{IsSeenBy}

-- no event that was made happens after the one at this place
abbrev pub NoneAfter : CourseState → Place → Type 0
NoneAfter s place = (later : Place) → HappensBefore (journals_of s) place later → ⊥

-- no event that was made happens after the last one of this follower. So it is in each state that the follower may see, which
-- are those up to its next step
abbrev pub HoldsBack : FollowerView → Type 0
HoldsBack v = (s : CourseState) (last : ℕ) → IsSeenBy v s → length v.follower.journal ≡ suc last → NoneAfter s (record { thread = v.number; event = last })
