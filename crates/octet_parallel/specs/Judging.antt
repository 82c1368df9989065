-- What a replay on threads comes to.
use Rattle.std.specs.Prelude.{◌≡◌, List, Option, Some, None}
use Rattle.octet_model.specs.declared.log.ThreadLog.{ThreadLog}
use Rattle.octet_model.specs.declared.outcome.Outcome.{Outcome}
use Rattle.octet_model.specs.declared.script.Script.{Script}
use Rattle.octet_model.specs.Orders.{execution, lowest_order}
use Rattle.octet_clock.specs.Fronts.{OrdersConflicts}
use Rattle.octet_parallel.specs.declared.player.Player.{Player}
use Rattle.octet_parallel.specs.declared.field.Field.{Field}
use Rattle.octet_parallel.specs.Calls.{view_of, IsPlayerOf, HasEnded}

-- the player is one of the field's, and has played to its end
pub record HasPlayed (field : Field) (player : Player) : Type 0 where
  pub own : IsPlayerOf field player
  pub ended : HasEnded (view_of player)

-- the player has the same number
abbrev pub IsSamePlayer : Player → Player → Type 0
IsSamePlayer before after = (view_of after).number ≡ (view_of before).number

-- the outcome is that of the lowest order, which is lawful and has ordered journals.
-- There is none exactly where that order is not lawful or its journals are not ordered
abbrev pub IsJudged : Script → List ThreadLog → Option Outcome → Type 0
IsJudged script log None = ¬ OrdersConflicts script log
IsJudged script log (Some outcome) = OrdersConflicts script log × (outcome ≡ execution script log (lowest_order script log))
