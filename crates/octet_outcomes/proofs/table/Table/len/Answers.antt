use Rattle.octet_outcomes.proofs.RowsIn.{many_in}
use Rattle.octet_outcomes.proofs.table.Table.len.Goals as goal

pub returns : goal.returns
returns g c = many_in c.self.inside.width c.self.inside.count c.self.inside.numbers.items c.args.self.now c.self.view_is
