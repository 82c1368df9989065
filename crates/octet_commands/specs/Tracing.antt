-- How the lines of a trace are told, by a follower for each thread.
use Rattle.std.specs.Prelude.{◌≡◌, ℕ, ◌+◌, List, [], ◌∷◌, ◌++◌, length, Some, slice_get}
use Rattle.octet_model.specs.declared.event.Event.{Event}
use Rattle.octet_model.specs.declared.event.Place.{Place}
use Rattle.octet_model.specs.declared.script.Script.{Script}
use Rattle.octet_model.specs.Thread.{Configuration, settled, starting_configuration, FitsFrom}
use Rattle.octet_model.specs.Machine.{Journals, journal_of}
use Rattle.octet_model.specs.Orders.{commands_of}
use Rattle.octet_interp.specs.Following.{places_ahead, FollowerState, IsFollowing}
use Rattle.octet_commands.specs.TraceTexts.{event_lines, region_lines}

-- all `region` commands before the next access are told, and the thread stands at this access
pub record TellsRegions (lines : List (List ℕ)) (place : Place) (before : FollowerState) (text : List ℕ) (after : FollowerState) : Type 0 where
  pub told : text ≡ region_lines lines place (before.regions + length (places_ahead before.commands before.at)) (places_ahead before.commands before.at)
  pub none_left : places_ahead after.commands after.at ≡ []
  pub regions : after.regions ≡ before.regions + length (places_ahead before.commands before.at)
  pub stands : after.at ≡ settled before.commands before.at
  pub settles : settled after.commands after.at ≡ settled before.commands before.at
  pub commands : after.commands ≡ before.commands

-- the event fits what the thread demands
pub record FitsNext (event : Event) (s : FollowerState) : Type 0 where
  pub from : Configuration
  pub settles : settled s.commands s.at ≡ settled s.commands from
  pub fits : FitsFrom s.commands from (event ∷ [])

-- the event is told, with the `region` commands before it, and is followed
abbrev pub TellsEvent : List (List ℕ) → Script → Place × Event → FollowerState → List ℕ → FollowerState → Type 0
TellsEvent lines script item before text after =
    (start : Configuration) (journal : List Event) → IsFollowing start journal before
    → (text ≡ event_lines lines script before.commands start journal item) × IsFollowing start (journal ++ item.1 ∷ []) after

-- the follower of a thread that made the events of this journal
pub record IsFollowerOf (script : Script) (thread : ℕ) (journal : List Event) (s : FollowerState) : Type 0 where
  pub commands : s.commands ≡ commands_of script thread
  pub follows : IsFollowing (starting_configuration script.fuel) journal s

-- each thread has its follower
pub record AreFollowers (script : Script) (journals : Journals) (followers : List FollowerState) : Type 0 where
  pub as_many : length followers ≡ length script.threads
  pub each : (thread : ℕ) (s : FollowerState) → slice_get followers thread ≡ Some s → IsFollowerOf script thread (journal_of journals thread) s
