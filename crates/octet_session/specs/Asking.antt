-- What a thread is answered that asks for an access.
use Rattle.std.specs.Prelude.{◌≡◌, ◌⊎◌, ℕ, ◌+◌, ◌<◌, ◌≤◌, Bool, true, false, List, [], ◌∷◌, ◌++◌, map, Option, Some, None, Result, Ok, Err}
use Rattle.std.specs.Option.{option_map}
use Rattle.octet_model.specs.declared.event.Event.{Event}
use Rattle.octet_model.specs.declared.event.Event.TheVariants.{Marked}
use Rattle.octet_model.specs.declared.event.Mark.{Mark}
use Rattle.octet_recorder.specs.declared.access.Access.{Access}
use Rattle.octet_recorder.specs.declared.access.Access.TheVariants.{Read, Write, Update}
use Rattle.octet_recorder.specs.declared.track.TheConstants.{LINES_OF_ACCESS}
use Rattle.octet_rerun.specs.Events.{event_of, found_in}
use Rattle.octet_session.specs.declared.not_made.NotMade.{NotMade}
use Rattle.octet_session.specs.declared.not_made.NotMade.TheVariants.{Waits, NoRoom, Left}
use Rattle.octet_session.specs.Standing.{Standing, GainsMarks}

-- the object of an access
abbrev pub object_of : Access → ℕ
object_of (Read object) = object
object_of (Write object value) = object
object_of (Update object change) = object

-- a thread may ask for this access: it has begun none, or this one
abbrev pub MayAsk : Access → Option Access → Type 0
MayAsk wanted begun = (begun ≡ None) ⊎ (begun ≡ Some wanted)

-- the lines that an access takes in a recording
abbrev pub lines_of : Access → ℕ
lines_of (Read object) = 1
lines_of (Write object value) = 2
lines_of (Update object change) = 2

-- and the line of a region, if one begins with it
abbrev pub lines_of_region : Bool → ℕ
lines_of_region true = 1
lines_of_region false = 0

-- a journal grows by marks and then by this access, of which the thread is told the value found, or that it wrote
pub record Makes (wanted : Access) (before : List Event) (value : ℕ) (after : List Event) : Type 0 where
  pub marks : List Mark
  pub found : ℕ
  pub grown : after ≡ before ++ (map (λ mark. Marked mark) marks ++ event_of wanted found ∷ [])
  pub told : value ≡ found_in (event_of wanted found)

-- what the journal gains: marks, and after them the access, once it is made
abbrev pub Gains : {H : Type 0} → Access → List Event → Result ℕ (NotMade H) → List Event → Type 0
Gains wanted before (Ok value) after = Makes wanted before value after
Gains wanted before (Err why) after = GainsMarks before after

-- the access that is begun after an answer: one that waits
abbrev pub begun_after : {H : Type 0} → Access → Result ℕ (NotMade H) → Option Access
begun_after wanted (Ok value) = None
begun_after wanted (Err Waits) = Some wanted
begun_after wanted (Err NoRoom) = None
begun_after wanted (Err (Left halt)) = None

-- a region that was to begin has begun with the access, once it is made
abbrev pub region_after : {H : Type 0} → Bool → Result ℕ (NotMade H) → Bool
region_after region (Ok value) = false
region_after region (Err why) = region

-- the lines that an answer takes: those of the access, once it is made
abbrev pub lines_taken : {H : Type 0} → Access → Bool → Result ℕ (NotMade H) → ℕ
lines_taken wanted region (Ok value) = lines_of_region region + lines_of wanted
lines_taken wanted region (Err why) = 0

-- there is room for so many lines: as many are left, or there is no bound
abbrev pub HasRoomFor : ℕ → Option ℕ → Type 0
HasRoomFor lines None = Unit {0}
HasRoomFor lines (Some left) = lines ≤ left

-- there is no room for so many lines
abbrev pub LacksRoomFor : ℕ → Option ℕ → Type 0
LacksRoomFor lines None = ⊥
LacksRoomFor lines (Some left) = left < lines

-- there is no room exactly where fewer lines are left than an access may take
abbrev pub HasCause : {H : Type 0} → Option ℕ → Result ℕ (NotMade H) → Type 0
HasCause left (Ok value) = HasRoomFor LINES_OF_ACCESS left
HasCause left (Err Waits) = HasRoomFor LINES_OF_ACCESS left
HasCause left (Err NoRoom) = LacksRoomFor LINES_OF_ACCESS left
HasCause left (Err (Left halt)) = HasRoomFor LINES_OF_ACCESS left

-- so many lines are taken of those that are left. Where there is no bound, there is none afterwards
abbrev pub Takes : Option ℕ → ℕ → Option ℕ → Type 0
Takes before lines after = option_map (λ left. left + lines) after ≡ before

-- a thread asks for an access: what it has made and begun after the answer, and how many lines are left
pub record Asks {H : Type 0} (wanted : Access) (v : Standing) (answer : Result ℕ (NotMade H)) (w : Standing) : Type 0 where
  pub number : w.number ≡ v.number
  pub journal : Gains wanted v.journal answer w.journal
  pub begun : w.begun ≡ begun_after wanted answer
  pub region : w.region ≡ region_after v.region answer
  pub left : Takes v.left (lines_taken wanted v.region answer) w.left
  pub cause : HasCause v.left answer
