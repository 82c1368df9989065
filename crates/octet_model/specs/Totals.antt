-- What updates add up to.
use Rattle.std.specs.Prelude.{◌≡◌, ◌≢◌, ℕ, ◌+◌, ◌-◌, ◌%◌, ◌^◌, ◌<◌, ◌==◌, if◌then◌else◌, List, length, take, Some, slice_index, sum_by}
use Rattle.octet_model.specs.declared.event.Event.{Event}
use Rattle.octet_model.specs.declared.event.Event.TheVariants.{Write, Update}
use Rattle.octet_model.specs.declared.event.Place.{Place}
use Rattle.octet_model.specs.declared.script.Script.{Script}
use Rattle.octet_model.specs.Thread.{AccessOrEnd, ToBump, starting_configuration, demanded, configuration_after, FitsUpdate}
use Rattle.octet_model.specs.Machine.{Journals, journal_of}
use Rattle.octet_model.specs.HappensBefore.{event_at}
use Rattle.octet_model.specs.Orders.{commands_of, starting_heap}

-- all accesses of the object are reads and updates
abbrev pub OnlyBumped : Journals → ℕ → Type 0
OnlyBumped journals object = (place : Place) (value : ℕ) → event_at journals place ≢ Some (Write object value)

-- the value after less the value before, modulo 2 ^ 64
abbrev pub difference : ℕ → ℕ → ℕ
difference before after = (after + 2 ^ 64 - before % 2 ^ 64) % 2 ^ 64

-- the amount that an event adds to an object: the difference of an update of this object, else nothing
abbrev pub added_by : ℕ → Event → ℕ
added_by object (Update other before after) = if other == object then difference before after else 0
added_by object _ = 0

-- the amount that all events together add to an object
abbrev pub added_to : ℕ → Journals → ℕ
added_to object journals = sum_by (λ journal. sum_by (added_by object) journal) journals

-- what a thread of a script demands at a place of its journal
abbrev pub demanded_at : Script → Journals → Place → AccessOrEnd
demanded_at script journals place =
    let commands = commands_of script place.thread in
    demanded commands (configuration_after commands (starting_configuration script.fuel) (take place.event (journal_of journals place.thread)))

-- the amount that a thread demands to be added, else 0
abbrev pub amount_of : AccessOrEnd → ℕ
amount_of (ToBump object amount) = amount
amount_of _ = 0

-- exact totals: each update adds the amount that its thread demands at its place. An object that is never written
-- ends with its starting value and the amounts of its updates, modulo 2 ^ 64
pub record AddsUp (script : Script) (journals : Journals) (heap : List ℕ) : Type 0 where
  pub totals : (object : ℕ) → object < length script.objects → OnlyBumped journals object
      → slice_index heap object ≡ (slice_index (starting_heap script) object + added_to object journals) % 2 ^ 64
  pub each : (place : Place) (object before after : ℕ) → event_at journals place ≡ Some (Update object before after)
      → FitsUpdate (demanded_at script journals place) object before after × (difference before after ≡ amount_of (demanded_at script journals place) % 2 ^ 64)
