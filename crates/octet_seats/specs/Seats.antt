-- Who has which seat of a table: seat 0 deals the others, and they join it again.
use Rattle.std.specs.Prelude.{◌≡◌, ◌≢◌, ℕ, suc, ◌<◌, ◌≤◌, ◌⊎◌, List, [], ◌∷◌, ◌++◌, Bool, true, false}
use mathlib.Core.Option.{some}
use lib.ListN.{get_elem?}

-- what a view tells of its seat: whether it is live, and its number.
-- Seat 0 also tells how many seats were made, and which joined it with what they left
pub record SeatFacts (A : Type 0) : Type 0 where
  pub is_live : Bool
  pub number : ℕ
  pub seats_made : ℕ
  pub joined : List (ℕ × A)

-- the seat that seat 0 deals next
abbrev pub dealt : {A : Type 0} → SeatFacts A → SeatFacts A
dealt seat = record { is_live = true; number = seat.seats_made; seats_made = 0; joined = [] }

-- seat 0 after it has dealt one more seat
abbrev pub after_dealing : {A : Type 0} → SeatFacts A → SeatFacts A
after_dealing seat = record seat { seats_made = suc seat.seats_made }

-- seat 0 after the seat of this number has joined it, and left this
abbrev pub after_joining : {A : Type 0} → SeatFacts A → ℕ → A → SeatFacts A
after_joining seat number left = record seat { joined = seat.joined ++ (number, left) ∷ [] }

-- the seats have joined seat 0, and `HasLeft` says what each has left
abbrev pub AreJoined : {A : Type 0} → (ℕ → A → Type 0) → (ℕ → Bool) → List (ℕ × A) → Type 0
AreJoined HasLeft has_joined [] = Unit {0}
AreJoined HasLeft has_joined (seat ∷ seats) = (has_joined seat.0 ≡ true) × HasLeft seat.0 seat.1 × AreJoined HasLeft has_joined seats

-- none of the seats has this number
abbrev pub IsApart : {A : Type 0} → ℕ → List (ℕ × A) → Type 0
IsApart number [] = Unit {0}
IsApart number (seat ∷ seats) = (seat.0 ≢ number) × IsApart number seats

-- the numbers of the seats all differ
abbrev pub AreApart : {A : Type 0} → List (ℕ × A) → Type 0
AreApart [] = Unit {0}
AreApart (seat ∷ seats) = IsApart seat.0 seats × AreApart seats

-- the live view at this place of the table has the place of its number, and has not joined.
-- `IsSeen` says what the view knows. Seat 0 counts the seats made and those that joined
pub record IsSeated {V A : Type 0} (facts : V → SeatFacts A) (IsSeen : V → Type 0) (HasLeft : ℕ → A → Type 0) (place_of : ℕ → ℕ) (seats_made : ℕ) (has_joined : ℕ → Bool) (place : ℕ) (v : V) : Type 0 where
  pub within : (facts v).number < seats_made
  pub own : place_of (facts v).number ≡ place
  pub here : has_joined (facts v).number ≡ false
  pub seen : IsSeen v
  pub counted : (facts v).number ≡ 0 → (facts v).seats_made ≡ seats_made
  pub are_joined : (facts v).number ≡ 0 → AreJoined HasLeft has_joined (facts v).joined
  pub apart : (facts v).number ≡ 0 → AreApart (facts v).joined

-- a live view of this number is there
pub record IsThere {V A : Type 0} (facts : V → SeatFacts A) (views : List V) (number : ℕ) : Type 0 where
  pub place : ℕ
  pub view : V
  pub at : get_elem? views place ≡ some view
  pub live : (facts view).is_live ≡ true
  pub numbered : (facts view).number ≡ number

-- the number is among those that have joined
abbrev pub IsListed : {A : Type 0} → ℕ → List (ℕ × A) → Type 0
IsListed number [] = ⊥
IsListed number (seat ∷ seats) = (seat.0 ≡ number) ⊎ IsListed number seats

-- the views of a table of at most so many seats. Each seat that was made is there, or has joined seat 0.
-- `IsUnmade` says what holds of a number whose seat is not made yet
pub record AreSeats {V A : Type 0} (facts : V → SeatFacts A) (IsSeen : V → Type 0) (HasLeft : ℕ → A → Type 0) (IsUnmade : ℕ → Type 0) (most : ℕ) (views : List V) : Type 0 where
  pub place_of : ℕ → ℕ
  pub seats_made : ℕ
  pub has_joined : ℕ → Bool
  pub few : seats_made ≤ most
  pub not_joined : (number : ℕ) → seats_made ≤ number → has_joined number ≡ false
  pub not_made : (number : ℕ) → seats_made ≤ number → IsUnmade number
  pub zeroth : IsThere facts views 0
  pub there : (number : ℕ) → number < seats_made → has_joined number ≡ false → IsThere facts views number
  pub listed : (number : ℕ) → has_joined number ≡ true → IsListed number (facts zeroth.view).joined
  pub seated : (place : ℕ) (v : V) → get_elem? views place ≡ some v → (facts v).is_live ≡ true → IsSeated facts IsSeen HasLeft place_of seats_made has_joined place v

-- all that holds of the numbers other than this one still holds
pub record Stay {V A : Type 0} (facts : V → SeatFacts A) (IsSeen IsSeenAfter : V → Type 0) (HasLeft HasLeftAfter : ℕ → A → Type 0) (IsUnmade IsUnmadeAfter : ℕ → Type 0) (but : ℕ) : Type 0 where
  pub seen : (v : V) → (facts v).number ≢ but → IsSeen v → IsSeenAfter v
  pub left : (number : ℕ) (what : A) → number ≢ but → HasLeft number what → HasLeftAfter number what
  pub unmade : (number : ℕ) → number ≢ but → IsUnmade number → IsUnmadeAfter number
