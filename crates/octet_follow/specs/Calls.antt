-- What the calls of a course and of a follower say.
use Rattle.std.specs.Prelude.{◌≡◌, ◌≢◌, ℕ, suc, ◌+◌, ◌^◌, ◌<◌, ◌≤◌, ◌⊎◌, Bool, true, false, List, [], ◌∷◌, ◌++◌, map, drop, length, sum_by, slice_index_or}
use Rattle.std.specs.Vec.{vec_capacity}
use Rattle.octet_digest.specs.Digests.{bits_of, digest_of}
use Rattle.octet_model.specs.declared.event.Event.{Event}
use Rattle.octet_model.specs.declared.event.Event.TheVariants as event
use Rattle.octet_model.specs.declared.event.Mark.{Mark}
use Rattle.octet_model.specs.declared.log.Gapped.{Gapped}
use Rattle.octet_model.specs.Journals.{mark_count, gap_after, gapped_marks}
use Rattle.octet_model.specs.Machine.{Journals}
use Rattle.octet_follow.specs.declared.access.Access.{Access}
use Rattle.octet_follow.specs.declared.course.Course.{Course}
use Rattle.octet_follow.specs.declared.ending.Ending.TheVariants.{Open, ThreadEnds, BreaksOff}
use Rattle.octet_follow.specs.declared.follower.Follower.{Follower}
use Rattle.octet_follow.specs.Accesses.{object_in, event_of, found_in}
use Rattle.octet_follow.specs.declared.halt.Halt.{Halt}
use Rattle.octet_follow.specs.declared.halt.Halt.TheVariants.{NeedsMarks, RecordingEnds, OverEnd, NoObject, EndsEarly, Amiss}
use Rattle.octet_follow.specs.Halts.{HaltsMark}
use Rattle.octet_follow.specs.State.{CourseState, unbegun}
use Rattle.octet_follow.specs.Views.{FollowerView}
use Rattle.octet_follow.specs.Rule.{IsSeenBy}
use Rattle.octet_follow.specs.Soundness.{IsSoundCourse}
use Rattle.octet_follow.specs.declared.words.Seat.{Seat}
use Rattle.octet_follow.specs.Seats.{view, starts_of, IsSeatOf}

-- what the follower knows
abbrev pub view_of : Follower → FollowerView
view_of follower = view follower.seat

-- what the follower has made
abbrev pub journal_in : Follower → List Event
journal_in follower = (view_of follower).follower.journal

-- what the followers have made
abbrev pub journals_in : List Follower → Journals
journals_in followers = map journal_in followers

-- the starting values of the course's objects
abbrev pub starts_in : Course → List ℕ
starts_in course = starts_of course.words

-- the number of the course's followers
abbrev pub followers_in : Course → ℕ
followers_in course = course.words.followers

-- the marks in the follower's buffer that it has not made. The first gap of a block counts from where the block begins
abbrev pub pending : Follower → List Gapped
pending follower = drop follower.next follower.marks.items

-- the number of marks for which the buffer has room
abbrev pub room_of : Follower → ℕ
room_of follower = vec_capacity follower.marks

-- these marks, with so many accesses before the first one
abbrev pub with_first_gap : ℕ → List Gapped → List Gapped
with_first_gap gap [] = []
with_first_gap gap (mark ∷ marks) = record { gap = gap; mark = mark.mark } ∷ marks

-- the accesses from the last mark that the follower has made up to the next one, or to the end of what it was told
abbrev pub gap_to_next : Follower → ℕ
gap_to_next follower = follower.left + gap_after 0 (journal_in follower)

-- all marks that the follower was given, each with the accesses since the mark before it
abbrev pub given : Follower → List Gapped
given follower = gapped_marks 0 (journal_in follower) ++ with_first_gap (gap_to_next follower) (pending follower)

-- the accesses after the last of some marks: those up to the next mark, where these are none
abbrev pub after_last : List Gapped → ℕ → ℕ → ℕ
after_last [] next after = next
after_last (mark ∷ marks) next after = after

-- the accesses after the last of these marks, of which it was told
abbrev pub given_after : Follower → ℕ
given_after follower = after_last (pending follower) (gap_to_next follower) follower.after

-- all accesses of which it was told
abbrev pub accesses_given : Follower → ℕ
accesses_given follower = sum_by (λ mark. mark.gap) (given follower) + given_after follower

-- the follower shows all that it has made, once it has made as many events as another one awaits
abbrev pub IsShown : Follower → Type 0
IsShown follower = follower.awaited ≤ length (journal_in follower) → (view_of follower).follower.shown ≡ length (journal_in follower)

-- the follower does not show the last event that it has made
abbrev pub IsUnshown : Follower → Type 0
IsUnshown follower = (view_of follower).follower.shown < length (journal_in follower)

-- the follower's counts are those of what it has made and was given. Its progress word shows all of it but perhaps the last
-- event, once it has made more events than another one awaits
pub record IsUpTo (follower : Follower) : Type 0 where
  pub events : follower.events ≡ length (journal_in follower)
  pub marked : follower.marked ≡ mark_count (journal_in follower)
  pub shown : follower.shown ≡ (view_of follower).follower.shown
  pub within : follower.shown ≤ length (journal_in follower)
  pub shows : follower.awaited < length (journal_in follower) → length (journal_in follower) ≤ suc follower.shown
  pub next : follower.next ≤ length follower.marks.items
  pub digest : bits_of follower.digest ≡ digest_of (journal_in follower)

-- the follower is one of the course's, between two calls
pub record IsFollowerOf (course : Course) (follower : Follower) : Type 0 where
  pub own : IsSeatOf course.words follower.seat
  pub number : (view_of follower).number ≡ follower.number
  pub inside : follower.number < followers_in course
  pub up : IsUpTo follower

-- the follower has the same number, room and awaited count
pub record IsSame (follower next : Follower) : Type 0 where
  pub number : (view_of next).number ≡ (view_of follower).number
  pub room : room_of next ≡ room_of follower
  pub awaited : next.awaited ≡ follower.awaited

-- the follower was told the same marks and accesses, and the same end
pub record IsGivenSame (follower next : Follower) : Type 0 where
  pub same : IsSame follower next
  pub marks : given next ≡ given follower
  pub after : given_after next ≡ given_after follower
  pub ending : next.ending ≡ follower.ending

-- the follower has made marks alone
pub record MakesMarks (v w : FollowerView) : Type 0 where
  pub marks : List Mark
  pub grown : w.follower.journal ≡ v.follower.journal ++ map (λ mark. event.Marked mark) marks

-- the follower has made marks, and then this access, with the value that the thread is told
pub record Makes (access : Access) (v : FollowerView) (value : ℕ) (w : FollowerView) : Type 0 where
  pub marks : List Mark
  pub found : ℕ
  pub grown : w.follower.journal ≡ v.follower.journal ++ (map (λ mark. event.Marked mark) marks ++ event_of access found ∷ [])
  pub told : value ≡ found_in (event_of access found)
  pub state : CourseState
  pub seen : IsSeenBy w state

-- the follower has made all that it was told of
abbrev pub IsThrough : Follower → Type 0
IsThrough follower = (follower.left ≡ 0) × (pending follower ≡ [])

-- what is next for the follower: an access, or its end
abbrev pub IsNextFor : Bool → Follower → Type 0
IsNextFor true follower = follower.left ≢ 0
IsNextFor false follower = (follower.ending ≡ ThreadEnds) × IsThrough follower

-- the next mark of the follower is due
abbrev pub IsDue : Follower → Type 0
IsDue follower = (follower.left ≡ 0) × (follower.next < length follower.marks.items)

-- the first mark of the buffer is counted, and shown
pub record CountsMark (follower next : Follower) : Type 0 where
  pub seat : next.seat ≡ follower.seat
  pub number : next.number ≡ follower.number
  pub ending : next.ending ≡ follower.ending
  pub after : next.after ≡ follower.after
  pub digest : next.digest ≡ follower.digest
  pub awaited : next.awaited ≡ follower.awaited
  pub marks : next.marks ≡ follower.marks
  pub events : next.events ≡ follower.events + 1
  pub marked : next.marked ≡ follower.marked + 1
  pub shown : next.shown ≡ follower.events + 1
  pub on : next.next ≡ follower.next + 1
  pub last : length follower.marks.items ≡ next.next → next.left ≡ follower.after
  pub left : (mark : Gapped) (marks : List Gapped) → pending next ≡ mark ∷ marks → next.left ≡ mark.gap

-- the follower has made all that it was told of, and more comes
abbrev pub IsOut : Follower → Type 0
IsOut follower = (follower.ending ≡ Open) × IsThrough follower

-- the follower's recording is at its end, and so is the follower
pub record IsComplete (follower : Follower) : Type 0 where
  pub ends : follower.ending ≡ ThreadEnds
  pub marks : given follower ≡ gapped_marks 0 (journal_in follower)
  pub after : given_after follower ≡ gap_after 0 (journal_in follower)

-- the follower of this number, which has made nothing and was given nothing. Others may wait for each access.
-- It has room for so many marks
pub record IsAtStart (course : Course) (room number : ℕ) (follower : Follower) : Type 0 where
  pub own : IsFollowerOf course follower
  pub numbered : (view_of follower).number ≡ number
  pub unbegun : (view_of follower).follower ≡ unbegun
  pub given_none : (given follower ≡ []) × (given_after follower ≡ 0)
  pub open_ : follower.ending ≡ Open
  pub awaited : follower.awaited ≡ 0
  pub buffer : room_of follower ≡ room

-- each follower is at its start
abbrev pub EachAtStart : Course → ℕ → List Follower → Type 0
EachAtStart course room followers = (number : ℕ) (none : Follower) → number < length followers → IsAtStart course room number (slice_index_or followers number none)

-- each follower is one of the course's, that of its number
abbrev pub EachOf : Course → List Follower → Type 0
EachOf course followers = (number : ℕ) (none : Follower) → number < length followers → IsFollowerOf course (slice_index_or followers number none) × ((view_of (slice_index_or followers number none)).number ≡ number)

-- the follower of a seat at first
pub record IsFollowerAt (room number : ℕ) (seat : Seat) (follower : Follower) : Type 0 where
  pub seated : follower.seat ≡ seat
  pub numbered : follower.number ≡ number
  pub ending : follower.ending ≡ Open
  pub left : follower.left ≡ 0
  pub digest : bits_of follower.digest ≡ digest_of []
  pub events : follower.events ≡ 0
  pub marked : follower.marked ≡ 0
  pub shown : follower.shown ≡ 0
  pub awaited : follower.awaited ≡ 0
  pub next : follower.next ≡ 0
  pub marks : follower.marks.items ≡ []
  pub buffer : room_of follower ≡ room

-- the followers of the seats from a number on
abbrev pub AreFollowersAt : ℕ → ℕ → List Seat → List Follower → Type 0
AreFollowersAt room number [] [] = Unit {0}
AreFollowersAt room number (seat ∷ seats) (follower ∷ followers) = IsFollowerAt room number seat follower × AreFollowersAt room (number + 1) seats followers
AreFollowersAt room number _ _ = ⊥

-- the cells have these values in one sound state that began with these, whose followers are these
pub record ClosesTo (starts : List ℕ) (followers : List Follower) (heap : List ℕ) : Type 0 where
  pub last : CourseState
  pub sound : IsSoundCourse last
  pub begins : last.starts ≡ starts
  pub are : last.followers ≡ map (λ follower. (view_of follower).follower) followers
  pub cells : last.cells ≡ heap

-- the follower has made as many events as its count can hold
abbrev pub IsFull : Follower → Type 0
IsFull follower = suc (length (journal_in follower)) ≡ 2 ^ 64

-- a mark of the follower is due, and was not made for this reason
pub record HaltsAtMark (halt : Halt) (follower : Follower) : Type 0 where
  pub next : Gapped
  pub later : List Gapped
  pub pends : pending follower ≡ next ∷ later
  pub due : follower.left ≡ 0
  pub why : HaltsMark next.mark halt (view_of follower)

-- the reason why the marks that are due were not all made
abbrev pub HaltsMarks : Halt → Follower → Type 0
HaltsMarks NeedsMarks follower = IsOut follower
HaltsMarks RecordingEnds follower = (follower.ending ≡ BreaksOff) × IsThrough follower
HaltsMarks Amiss follower = IsFull follower ⊎ HaltsAtMark Amiss follower
HaltsMarks halt follower = HaltsAtMark halt follower

-- the reason why an access was not made
abbrev pub Halts : Course → Access → Halt → Follower → Type 0
Halts course access OverEnd follower = IsNextFor false follower
Halts course access NoObject follower = length (starts_in course) ≤ object_in access
Halts course access halt follower = HaltsMarks halt follower

-- the reason why a thread is not at its end
abbrev pub IsNotEnded : Halt → Follower → Type 0
IsNotEnded (EndsEarly left) follower = (left ≡ follower.left) × (left ≢ 0)
IsNotEnded halt follower = HaltsMarks halt follower
