-- What a clause says of words and seats.
use Rattle.std.specs.Prelude.{◌≡◌, ℕ, ◌<◌, ◌≤◌, Bool, if◌then◌else◌, List, [], ◌++◌, map, length, slice_index_or}
use Rattle.octet_model.specs.declared.event.Event.{Event}
use Rattle.octet_model.specs.declared.event.Mark.{Mark}
use Rattle.octet_model.specs.declared.event.Mark.TheVariants.{Join, Draw, Fence}
use Rattle.octet_seats.specs.Rows.{AreInRow}
use Rattle.octet_follow.specs.State.{FollowerState, CourseState, unbegun}
use Rattle.octet_follow.specs.Soundness.{IsSoundCourse}
use Rattle.octet_follow.specs.Views.{FollowerView}
use Rattle.octet_follow.specs.Rule.{IsSeenBy}
use Rattle.octet_follow.specs.declared.words.Seat.{Seat}
use Rattle.octet_follow.specs.declared.words.Words.{Words}

-- the view of a seat
abbrev pub view : Seat → FollowerView
view seat = seat.inner.me.0

-- the starting values of words
abbrev pub starts_of : Words → List ℕ
starts_of words = words.table.shared.key.starts.value

-- the seat is one of these words'
abbrev pub BelongsTo : Words → Seat → Type 0
BelongsTo words seat = (seat.inner.table_id ≡ words.table.shared.table_id) × ((view seat).starts ≡ starts_of words) × ((view seat).followers ≡ words.followers)

-- likewise, once all seats are made and before any has joined
abbrev pub IsSeatOf : Words → Seat → Type 0
IsSeatOf words seat = BelongsTo words seat × ((view seat).number ≡ 0 → (view seat).followers_made ≡ words.followers) × ((view seat).number ≡ 0 → (view seat).joined ≡ [])

-- the follower has found what the mark needs of others
abbrev pub HasFound : FollowerState → Mark → Type 0
HasFound p (Join from upto) = (p.whom ≡ from) × (upto ≤ p.found)
HasFound p (Draw number) = ⊥
HasFound p (Fence number) = number ≤ p.seen

-- the follower has made these events, and shows all that it has made where it `shows`. It is so in a sound state
pub record Goes (v : FollowerView) (events : List Event) (shows : Bool) (w : FollowerView) : Type 0 where
  pub journal : w.follower.journal ≡ v.follower.journal ++ events
  pub number : w.number ≡ v.number
  pub shown : w.follower.shown ≡ (if shows then length w.follower.journal else v.follower.shown)
  pub state : CourseState
  pub seen : IsSeenBy w state

-- the follower has made nothing
pub record IsStill (v : FollowerView) (w : FollowerView) : Type 0 where
  pub journal : w.follower.journal ≡ v.follower.journal
  pub number : w.number ≡ v.number
  pub shown : w.follower.shown ≡ v.follower.shown

-- the seat of this follower, which has taken no step
abbrev pub IsFresh : ℕ → Seat → Type 0
IsFresh number seat = ((view seat).number ≡ number) × ((view seat).follower ≡ unbegun)

-- each seat is that of its follower, which has taken no step
abbrev pub EachFresh : Words → List Seat → Type 0
EachFresh words seats = (number : ℕ) (none : Seat) → number < length seats → IsSeatOf words (slice_index_or seats number none) × IsFresh number (slice_index_or seats number none)

-- each seat is that of its follower
abbrev pub EachOf : Words → List Seat → Type 0
EachOf words seats = (number : ℕ) (none : Seat) → number < length seats → IsSeatOf words (slice_index_or seats number none) × ((view (slice_index_or seats number none)).number ≡ number)

-- the seat of this follower, which has taken no step, while seats are made
abbrev pub IsFreshSeat : Words → ℕ → Seat → Type 0
IsFreshSeat words number seat = BelongsTo words seat × IsFresh number seat

-- the seat of this follower, while seats join
abbrev pub IsNumberedSeat : Words → ℕ → Seat → Type 0
IsNumberedSeat words number seat = BelongsTo words seat × ((view seat).number ≡ number)

-- the seats of the followers from this one on, in order, while seats join
abbrev pub AreNumbered : Words → ℕ → List Seat → Type 0
AreNumbered words number seats = AreInRow (IsNumberedSeat words) number seats

-- what a seat leaves that joins the first one
abbrev pub left_by : Seat → ℕ × FollowerState
left_by seat = ((view seat).number, (view seat).follower)

-- the cells have these values in one sound state that began with these, whose followers are those of the seats
pub record Closes (starts : List ℕ) (seats : List Seat) (values : List ℕ) : Type 0 where
  pub last : CourseState
  pub sound : IsSoundCourse last
  pub begins : last.starts ≡ starts
  pub are : last.followers ≡ map (λ seat. (view seat).follower) seats
  pub cells : last.cells ≡ values
