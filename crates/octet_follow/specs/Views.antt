-- What a follower knows.
use Rattle.std.specs.Prelude.{ℕ, suc, List, [], ◌∷◌, ◌++◌, Bool, true}
use Rattle.octet_seats.specs.Seats.{SeatFacts}
use Rattle.octet_follow.specs.State.{FollowerState, unbegun}
use Rattle.octet_follow.specs.Steps.{Kind, after}

-- the view of a follower: its number, the starting values, the number of followers, and how far it is.
-- The first follower's view also tells the followers made and joined back. A view joined back is spent
pub record FollowerView : Type 0 where
  pub is_live : Bool
  pub number : ℕ
  pub starts : List ℕ
  pub followers : ℕ
  pub follower : FollowerState
  pub followers_made : ℕ
  pub joined : List (ℕ × FollowerState)

-- what a view tells of its seat
abbrev pub facts_of : FollowerView → SeatFacts FollowerState
facts_of v = record { is_live = v.is_live; number = v.number; seats_made = v.followers_made; joined = v.joined }

-- the view of a follower that has taken no step
abbrev pub new_view : ℕ → List ℕ → ℕ → ℕ → FollowerView
new_view number starts followers followers_made = record { is_live = true; number = number; starts = starts; followers = followers; follower = unbegun; followers_made = followers_made; joined = [] }

-- the view after a step of this kind that found this word
abbrev pub stepped_by : Kind → ℕ → FollowerView → FollowerView
stepped_by k found v = record v { follower = after k found v.follower }

-- the view of the next follower, which the first one splits off
abbrev pub split_off : FollowerView → FollowerView
split_off v = new_view v.followers_made v.starts v.followers 0

-- the first follower's view after that
abbrev pub after_split : FollowerView → FollowerView
after_split v = record v { followers_made = suc v.followers_made }

-- the first follower's view after another was joined to it
abbrev pub after_join : FollowerView → FollowerView → FollowerView
after_join v w = record v { joined = v.joined ++ (w.number, w.follower) ∷ [] }
