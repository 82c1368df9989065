use Rattle.std.proofs.Common.{ap, length, arith, ◌∙◌}
use Rattle.octet_outcomes.proofs.RowsIn.{fits_in, row_in, same_width}
use Rattle.octet_outcomes.proofs.table.Table.row.Goals as goal

pub row_among-requires : goal.row_among-requires
row_among-requires g c = omega (arith, fits_in c.self.inside.width c.self.inside.count c.self.inside.numbers.items c.args.self.now c.self.view_is c.args.place c.self.invariant c.requires, ap length c.deref.ensures.value)

pub returns-clause-row : goal.returns-clause-row
returns-clause-row g c = row_in c.self.inside.width c.self.inside.count c.self.inside.numbers.items c.args.self.now c.self.view_is c.deref.result.now _ c.args.place c.deref.ensures.value c.requires c.row_among.ensures.part

pub returns-clause-len : goal.returns-clause-len
returns-clause-len g c = c.row_among.ensures.len ∙ same_width c.self.inside.width c.self.inside.count c.self.inside.numbers.items c.args.self.now c.self.view_is
