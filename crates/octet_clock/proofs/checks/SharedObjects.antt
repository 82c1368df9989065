-- Where every object is one thread's own or only read, nothing conflicts.
use Rattle.std.proofs.Common.{◌≡◌, ◌≢◌, ◌<◌, ℕ, inl, inr, Bool, true, false, ◌||◌, List, [], length, IsTrue, Some, slice_get, sym, ap, ◌∙◌}
use Rattle.std.proofs.lemmas.Bool.{cases_lt}
use Rattle.std.proofs.lemmas.List.{get_or_past}
use Rattle.octet_model.specs.declared.event.Event.{Event}
use Rattle.octet_model.specs.declared.event.Place.{Place}
use Rattle.octet_model.specs.Machine.{Journals}
use Rattle.octet_model.specs.HappensBefore.{event_at, is_write, IsOrdered}
use Rattle.octet_clock.specs.declared.sharing.Sharing.{Sharing}
use Rattle.octet_clock.specs.declared.sharing.Sharing.TheVariants.{Unused, OwnedBy, ReadShared}
use Rattle.octet_clock.specs.Sharing.{sharing_of, Allows, HasNoConflict, IsAllowed}

pub within : (journals : Journals) (place : Place) (event : Event) → event_at journals place ≡ Some event → place.thread < length journals
within journals place event at = elim (cases_lt place.thread (length journals)) [
  | inl lt ↦ lt
  | inr past ↦ absurd (let none = ap (λ (j : List Event). slice_get j place.event) (get_or_past journals place.thread [] past) in cc)
]

-- two accesses that one object allows are by one thread, or read
alike : (sharing : Sharing) (t u : ℕ) (v w : Bool) → Allows sharing t v → Allows sharing u w → t ≢ u → IsTrue (v || w) → ⊥
alike Unused t u v w first second differ one = first
alike (OwnedBy owner written) t u v w first second differ one = differ (first.0 ∙ sym second.0)
alike ReadShared t u true w first second differ one = absurd cc
alike ReadShared t u false true first second differ one = absurd cc
alike ReadShared t u false false first second differ one = absurd cc

pub no_conflict : (journals : Journals) (objects : List Sharing) → ((place : Place) (event : Event) → event_at journals place ≡ Some event → IsAllowed objects place.thread event) → HasNoConflict journals
no_conflict journals objects allowed a b c =
    alike (sharing_of objects c.object) a.thread b.thread (is_write c.first) (is_write c.second) (allowed a c.first c.is_first c.object c.of_one) (allowed b c.second c.is_second c.object c.of_same) c.by_others c.one_writes

-- and where nothing conflicts, all is ordered
pub all_ordered : (journals : Journals) → HasNoConflict journals → IsOrdered journals
all_ordered journals none a b conflict = absurd (none a b conflict)
