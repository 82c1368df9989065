use Rattle.std.proofs.Common.{arith}
use Rattle.octet_outcomes.proofs.RowsIn.{added_row, many_in}
use Rattle.octet_outcomes.proofs.table.Table.add.Goals as goal

pub overflow_add-self : goal.overflow_add-self
overflow_add-self g c = omega (arith, many_in c.self.inside.width c.self.inside.count c.self.inside.numbers.items c.args.self.now c.self.view_is, c.requires.room)

pub returns-clause-ok : goal.returns-clause-ok
returns-clause-ok g c = added_row c.self.inside.width c.self.inside.count c.self.inside.numbers.items c.args.self.now c.self.view_is _ c.args.row.now _ (omega arith) c.in_ok-extend_from_slice.ensures.items c.self.invariant c.requires.width
