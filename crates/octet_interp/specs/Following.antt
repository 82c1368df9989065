-- Which commands of a thread made the events of a journal: where its accesses stand, and its `region` commands.
use Rattle.std.specs.Prelude.{◌≡◌, ℕ, zero, suc, ◌+◌, ◌<◌, ◌≤◌, Bool, true, false, if◌then◌else◌, List, [], ◌∷◌, ◌++◌, length, All, Option, Some, None, slice_get}
use Rattle.octet_model.specs.declared.command.Command.{Command}
use Rattle.octet_model.specs.declared.command.Command.TheVariants.{Region}
use Rattle.octet_model.specs.declared.event.Event.{Event}
use Rattle.octet_model.specs.declared.event.Event.TheVariants.{Marked}
use Rattle.octet_model.specs.declared.limits.TheConstants.{MAX_FUEL}
use Rattle.octet_model.specs.Validity.{HasRegisters}
use Rattle.octet_model.specs.Thread.{Configuration, stepped, settled, is_access, configuration_after, FitsFrom}
use Rattle.octet_interp.specs.declared.context.Context.{Context}
use Rattle.octet_interp.specs.Leads.{IsLeadTable}
use Rattle.octet_interp.specs.Regions.{regions_before}

-- the test whether a command is a `region`
abbrev pub is_region : Command → Bool
is_region Region = true
is_region _ = false

-- the place of a command, if it is a `region`
abbrev pub region_place : Command → ℕ → List ℕ
region_place command place = if is_region command then place ∷ [] else []

-- the places of the `region` commands that are run before the first access, or as far as there is fuel
abbrev pub region_places : List Command → ℕ → Configuration → List ℕ
region_places commands zero c = []
region_places commands (suc fuel) c =
    elim (slice_get commands c.place) [
      | None ↦ []
      | Some command ↦ elim (is_access command) [ true ↦ [] | false ↦ region_place command c.place ++ region_places commands fuel (stepped commands c command) ]
    ]

-- the places of the `region` commands from here on, up to the access or the end that is demanded
abbrev pub places_ahead : List Command → Configuration → List ℕ
places_ahead commands c = region_places commands c.fuel c

-- the test whether the last event of a journal is a mark
abbrev pub ends_in_mark : List Event → Bool
ends_in_mark [] = false
ends_in_mark (Marked mark ∷ []) = true
ends_in_mark (event ∷ []) = false
ends_in_mark (event ∷ other ∷ journal) = ends_in_mark (other ∷ journal)

-- the places of the `region` commands that a thread runs between its last access and its next event.
-- After a mark there are none, since they were run before the mark
abbrev pub places_before_next : List Command → Configuration → List Event → List ℕ
places_before_next commands start journal = elim (ends_in_mark journal) [ true ↦ [] | false ↦ places_ahead commands (configuration_after commands start journal) ]

-- the place of the command that makes the next access
abbrev pub access_place : List Command → Configuration → List Event → ℕ
access_place commands start journal = (settled commands (configuration_after commands start journal)).place

-- the state of a thread that follows a journal: its commands, where it stands,
-- and how many `region` commands it ran
pub record FollowerState : Type 0 where
  pub commands : List Command
  pub at : Configuration
  pub regions : ℕ

-- the thread has these `region` commands still to tell before its next access by the journal.
-- The last of them has the number of the access's region
pub record IsBeforeRegions (start : Configuration) (journal : List Event) (places : List ℕ) (s : FollowerState) : Type 0 where
  pub ahead : places_ahead s.commands s.at ≡ places
  pub settles : settled s.commands s.at ≡ settled s.commands (configuration_after s.commands start journal)
  pub counts : s.regions + length places ≡ regions_before s.commands start journal

-- the thread followed the journal from its start, and no further
abbrev pub IsFollowing : Configuration → List Event → FollowerState → Type 0
IsFollowing start journal s = IsBeforeRegions start journal (places_before_next s.commands start journal) s

-- the thread told all `region` commands before its next access, and stands at this access
pub record IsBeforeAccess (start : Configuration) (journal : List Event) (s : FollowerState) : Type 0 where
  pub told : IsBeforeRegions start journal [] s
  pub stands : s.at ≡ settled s.commands (configuration_after s.commands start journal)

-- the thread passed the next `region` command ahead
pub record PassesRegion (before : FollowerState) (place : ℕ) (after : FollowerState) : Type 0 where
  pub ahead : places_ahead before.commands before.at ≡ place ∷ places_ahead after.commands after.at
  pub regions : after.regions ≡ suc before.regions
  pub settles : settled after.commands after.at ≡ settled before.commands before.at

-- no `region` command is ahead, and the thread stands at its next access
pub record PassesNone (before after : FollowerState) : Type 0 where
  pub none : places_ahead before.commands before.at ≡ []
  pub none_left : places_ahead after.commands after.at ≡ []
  pub regions : after.regions ≡ before.regions
  pub stands : after.at ≡ settled before.commands before.at
  pub settles : settled after.commands after.at ≡ settled before.commands before.at

-- the thread passed the `region` command that it told, or none is ahead
abbrev pub TellsRegion : FollowerState → Option ℕ → FollowerState → Type 0
TellsRegion before (Some place) after = PassesRegion before place after
TellsRegion before None after = PassesNone before after

-- the thread stands where some configuration settles that the event fits
pub record CanFollow (event : Event) (s : FollowerState) : Type 0 where
  pub from : Configuration
  pub stands : s.at ≡ settled s.commands from
  pub fits : FitsFrom s.commands from (event ∷ [])

-- the thread followed the event too
abbrev pub FollowsOn : FollowerState → Event → FollowerState → Type 0
FollowsOn before event after = (start : Configuration) (journal : List Event) → IsBeforeAccess start journal before → IsFollowing start (journal ++ event ∷ []) after

-- an access is at hand, with fuel for it
pub record HasAccess (s : FollowerState) : Type 0 where
  pub within : s.at.place < length s.commands
  pub fuelled : 0 < s.at.fuel

-- the commands of a thread name registers that are there, and the table has their leads.
-- Each `region` command that was run took fuel
pub record IsFollower (commands : List Command) (leads : List ℕ) (context : Context) : Type 0 where
  pub registers_there : All HasRegisters commands
  pub lead_table : IsLeadTable commands leads
  pub regions_took_fuel : context.regions + context.fuel ≤ MAX_FUEL
