-- The rule: between any two steps the words and the views of all followers are one sound state of the course.
use Rattle.std.specs.Prelude.{◌≡◌, ◌≢◌, ℕ, suc, ◌-◌, ◌/◌, ◌<◌, ◌⊎◌, List, [], false, length}
use mathlib.Core.Option.{some}
use Rattle.atomic_table.specs.Table.{State, Me, Step as TableStep}
use Rattle.octet_model.specs.declared.event.Mark.{Mark}
use Rattle.octet_follow.specs.State.{FollowerState, CourseState, follower_of, unbegun, words}
use Rattle.octet_follow.specs.Steps.{Kind, May, step, word_found, ToUpdate, ToLookAtDraws, ToDraw, ToMark}
use Rattle.octet_rule.specs.declared.change.Change.{Change}
use Rattle.octet_rule.specs.Changes.{changed_by}
use Rattle.octet_follow.specs.Soundness.{IsSoundCourse}
use Rattle.octet_seats.specs.Seats.{AreSeats}
use Rattle.octet_follow.specs.Views.{FollowerView, facts_of, new_view, stepped_by}

-- the follower is as its view has it, in a sound state
pub record IsSeenBy (v : FollowerView) (s : CourseState) : Type 0 where
  pub sound : IsSoundCourse s
  pub starts : s.starts ≡ v.starts
  pub many : length s.followers ≡ v.followers
  pub inside : v.number < length s.followers
  pub stands : follower_of s v.number ≡ v.follower

-- a follower that was joined back is kept as it was
abbrev pub HasLeft : CourseState → ℕ → FollowerState → Type 0
HasLeft s number follower = follower_of s number ≡ follower

-- a follower that is not made yet has made no event
abbrev pub IsUnmade : CourseState → ℕ → Type 0
IsUnmade s number = follower_of s number ≡ unbegun

-- the words are those of a sound state, in which each follower is as its view has it
pub record IsRuled (starts : List ℕ) (followers : ℕ) (table : State Mark FollowerView) : Type 0 where
  pub state : CourseState
  pub lie : table.words ≡ words state
  pub sound : IsSoundCourse state
  pub begins : state.starts ≡ starts
  pub many : length state.followers ≡ followers
  pub seats : AreSeats facts_of (λ v. IsSeenBy v state) (HasLeft state) (IsUnmade state) (length state.followers) table.views

-- the view of the first follower at first
abbrev pub first_view : List ℕ → ℕ → FollowerView
first_view starts followers = new_view 0 starts followers 1

-- the view that is spent
abbrev pub spent : FollowerView
spent = record { is_live = false; number = 0; starts = []; followers = 0; follower = unbegun; followers_made = 0; joined = [] }

-- one step by the follower of a view, which finds this word, from one sound state to another
pub record Steps (k : Kind) (v : FollowerView) (told : ℕ) (w : FollowerView) : Type 0 where
  pub before : CourseState
  pub seen : IsSeenBy v before
  pub may : May k v.number before
  pub word : told ≡ word_found k v.number before
  pub moves : w ≡ stepped_by k told v
  pub seen_after : IsSeenBy w (step k v.number before)

-- the object whose cell lies at a place
abbrev pub object_at : FollowerView → ℕ → ℕ
object_at v place = place / 8 - suc v.followers

-- one step of the follower that tells the word found
abbrev pub Finds : Kind → Me Mark FollowerView → ℕ → Me Mark FollowerView → Type 0
Finds k me told next = (next.1 ≡ me.1) × Steps k me.0 told next.0

-- one step that updates the cell of an object by a change
abbrev pub Changes : Change → ℕ → Me Mark FollowerView → ℕ → Me Mark FollowerView → Type 0
Changes change object me told next = Finds (ToUpdate object (changed_by change)) me told next

-- likewise, without the word: a store tells nothing of it
abbrev pub DoesStep : Kind → FollowerView → FollowerView → Type 0
DoesStep k v w = (found : ℕ) × Steps k v found w

-- one step of the follower by a store
abbrev pub Stores : Kind → Me Mark FollowerView → Me Mark FollowerView → Type 0
Stores k me next = (next.1 ≡ me.1) × DoesStep k me.0 next.0

-- an exchange of the number of draws makes the draw after it, or finds another number and is a look
abbrev pub DrawsOrLooks : ℕ → FollowerView → ℕ → FollowerView → Type 0
DrawsOrLooks expected v told w = ((told ≡ expected) × Steps (ToDraw (suc expected)) v told w) ⊎ ((told ≢ expected) × Steps ToLookAtDraws v told w)

-- likewise, of the follower of a seat
abbrev pub Draws : ℕ → Me Mark FollowerView → ℕ → Me Mark FollowerView → Type 0
Draws expected me told next = (next.1 ≡ me.1) × DrawsOrLooks expected me.0 told next.0

-- an exchange of the own progress word makes the mark that it announces
abbrev pub Marks : TableStep Mark → Me Mark FollowerView → ℕ → Me Mark FollowerView → Type 0
Marks operation me told next = (mark : Mark) × (operation.said ≡ some mark) × Finds (ToMark mark) me told next
