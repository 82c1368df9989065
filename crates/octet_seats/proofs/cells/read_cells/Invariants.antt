use Rattle.std.proofs.Common.{◌≡◌}
use Rattle.std.specs.Mem.Slots.{slots_items}
use Rattle.octet_seats.specs.Cells.{cells_in}
use Rattle.octet_seats.proofs.cells.read_cells.Given as goal

abbrev pub invariant-loop-cell : goal.invariant-loop-cell
invariant-loop-cell g l = l.values.items ≡ cells_in (slots_items l.closed.words) l.first l.cell
