-- A sound state of a course: between any two steps, what was made so far is a play of the plain machine, whatever was asked.
use Rattle.std.specs.Prelude.{◌≡◌, ℕ, ◌<◌, ◌≤◌, List, length, Some, slice_get}
use Rattle.octet_model.specs.declared.event.Event.{Event}
use Rattle.octet_model.specs.declared.event.Event.TheVariants.{Marked}
use Rattle.octet_model.specs.declared.event.Mark.TheVariants.{Join}
use Rattle.octet_model.specs.Machine.{IsFront, starting_state}
use Rattle.octet_model.specs.Plays.{by_journals, state_after_play}
use Rattle.octet_follow.specs.State.{FollowerState, CourseState, follower_of, journals_of, plain}

-- each join of the journal names as many events of a follower as that one shows, or fewer
abbrev pub JoinsShown : CourseState → List Event → Type 0
JoinsShown s journal = (k from upto : ℕ) → slice_get journal k ≡ Some (Marked (Join from upto)) → upto ≤ (follower_of s from).shown

-- a sound follower: what it shows it has made, what it found of another one that one shows, and so it does what was joined
pub record IsSoundFollower (s : CourseState) (p : FollowerState) : Type 0 where
  pub shown : p.shown ≤ length p.journal
  pub look : p.found ≤ (follower_of s p.whom).shown
  pub seen : p.seen ≤ s.draws
  pub joins : JoinsShown s p.journal

-- a sound state: a play makes the followers' journals, and leads to the cells and the number of draws
pub record IsSoundCourse (s : CourseState) : Type 0 where
  pub wide : length s.cells ≡ length s.starts
  pub is_play : IsFront (by_journals (journals_of s)) (starting_state s.starts (journals_of s)) s.play
  pub comes : state_after_play s.starts (journals_of s) s.play ≡ plain s
  pub each : (t : ℕ) → t < length s.followers → IsSoundFollower s (follower_of s t)
