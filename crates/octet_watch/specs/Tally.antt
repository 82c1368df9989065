-- What it means to count events by class.
use Rattle.std.specs.Prelude.{◌≡◌, ℕ, ◌+◌, ◌-◌, ◌^◌, ◌<◌, ◌==◌, min, List, [], ◌∷◌, length, map, slice_index, slice_set}
use Rattle.std.specs.List.{AllZip, count_by, flat_map, range_with_len}
use denote.Ref.{Bor}
use Rattle.octet_model.specs.declared.event.Event.{Event}

-- the function gives this answer at an event. It is a function of references to events
abbrev pub AnswersAt : {Answer : Type 0} → (Bor Event → Answer → Type 0) → Event → Answer → Type 0
AnswersAt gives event answer = (shown : Bor Event) × gives shown answer × (shown.now ≡ event)

-- the events of all journals, one journal after the other
abbrev pub all_events : List (List Event) → List Event
all_events journals = flat_map (λ journal. journal) journals

-- the count, which saturates at 2 ^ 64 - 1
abbrev pub saturated : ℕ → ℕ
saturated n = min n (2 ^ 64 - 1)

-- the number of classes that equal each class below a bound
abbrev pub class_counts : ℕ → List ℕ → List ℕ
class_counts bound classes = map (λ k. saturated (count_by (λ class. class == k) classes)) (range_with_len 0 bound)

-- the kept function answered a class for each event of the journals.
-- The k-th number is the number of events that it put in class k
pub record IsTally (answers : Event → ℕ → Type 0) (bound : ℕ) (journals : List (List Event)) (numbers : List ℕ) : Type 0 where
  pub classes : List ℕ
  pub answered : AllZip answers (all_events journals) classes
  pub counts : numbers ≡ class_counts bound classes

-- the k-th number is the number of events that a function puts in class k, where each answer is this function's
abbrev pub CountsByFunction : (Event → ℕ → Type 0) → ℕ → List (List Event) → List ℕ → Type 0
CountsByFunction answers bound journals numbers = (class_of : Event → ℕ)
    → ((event : Event) (class : ℕ) → answers event class → class ≡ class_of event)
    → length (all_events journals) < 2 ^ 64
    → numbers ≡ map (λ k. count_by (λ event. class_of event == k) (all_events journals)) (range_with_len 0 bound)

-- the numbers with one more at the place of each class
abbrev pub counted : List ℕ → List ℕ → List ℕ
counted [] numbers = numbers
counted (class ∷ classes) numbers = counted classes (slice_set numbers class (saturated (slice_index numbers class + 1)))

-- the numbers after count on the classes of these events
pub record CountsOn (answers : Event → ℕ → Type 0) (events : List Event) (before after : List ℕ) : Type 0 where
  pub classes : List ℕ
  pub answered : AllZip answers events classes
  pub counts : after ≡ counted classes before

-- one more event is counted in the class that a function gives it, where each answer is this function's
abbrev pub AddsByFunction : (Event → ℕ → Type 0) → Event → List ℕ → List ℕ → Type 0
AddsByFunction answers event before after = (class_of : Event → ℕ)
    → ((event : Event) (class : ℕ) → answers event class → class ≡ class_of event)
    → after ≡ slice_set before (class_of event) (saturated (slice_index before (class_of event) + 1))
