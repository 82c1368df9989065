-- What is known of a thread's commands beforehand.
use Rattle.std.specs.Prelude.{Bool, List}
use Rattle.octet_model.specs.declared.command.Command.{Command}
use Rattle.octet_outcomes.specs.declared.quiet.Quiet.{Quiet}
use Rattle.octet_outcomes.specs.Flow.{AreLive, AreOpened}
use Rattle.octet_outcomes.specs.Quiets.{AreQuiet}

-- the tables are right
pub record IsGuided (commands : List Command) (live : List (List Bool)) (quiets : List Quiet) : Type 0 where
  pub opened : AreOpened commands
  pub alive : AreLive commands live
  pub still : AreQuiet commands quiets
