use Rattle.std.proofs.Common.{sym, ap, ◌∙◌}
use Rattle.octet_replay.specs.NextSteps.{as_next}
use Rattle.octet_parallel.proofs.players.Turns.{is_amiss}
use Rattle.octet_parallel.proofs.field.Field.play.Goals as goal

pub go_amiss-requires-clause-why : goal.go_amiss-requires-clause-why
go_amiss-requires-clause-why c = is_amiss c.args.self.now c.args.player.now c.requires.own (sym c.requires.next.by_log ∙ ap as_next c.in-NothingFits.is)
