-- What lies in the past of the first events of a thread.
use Rattle.std.specs.Prelude.{◌≡◌, ℕ, ◌<◌, ◌⊎◌, Some}
use Rattle.octet_model.specs.declared.event.Mark.TheVariants.{Draw}
use Rattle.octet_model.specs.declared.event.Event.TheVariants.{Marked}
use Rattle.octet_model.specs.declared.event.Place.{Place}
use Rattle.octet_model.specs.Machine.{Journals}
use Rattle.octet_model.specs.HappensBefore.{event_at, IsEvent, HappensBefore}

-- event a is event b, or happens before b
abbrev pub Reaches : Journals → Place → Place → Type 0
Reaches journals a b = (a ≡ b) ⊎ HappensBefore journals a b

-- the event at the place lies in the past of a thread's first `now` events:
-- it is one of these, or happens before one of them
pub record InPast (journals : Journals) (thread now : ℕ) (place : Place) : Type 0 where
  pub is_event : IsEvent journals place
  pub near : ℕ
  pub below : near < now
  pub reaches : Reaches journals place (record { thread = thread; event = near })

-- no two draws of the journals have one number
abbrev pub DrawsDiffer : Journals → Type 0
DrawsDiffer journals = (a b : Place) (number : ℕ) → event_at journals a ≡ Some (Marked (Draw number)) → event_at journals b ≡ Some (Marked (Draw number)) → a ≡ b
