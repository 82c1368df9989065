use Rattle.std.proofs.Common.{◌∙◌}
use Rattle.octet_outcomes.proofs.RowsIn.{keeps_more}
use Rattle.octet_outcomes.proofs.rows.Rows.add.Goals as goal

pub returns-clause-keeps : goal.returns-clause-keeps
returns-clause-keeps g c = keeps_more _ c.args.self.now _ c.args.row.now c.in_ok-place.place c.self.view_is (c.in_ok-place.ensures.is ∙ c.len.ensures) c.in_ok-add.ensures.ok
