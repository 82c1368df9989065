use Rattle.std.proofs.Common.{◌≡◌, ◌++◌, take, replicate}
use Rattle.octet_seats.specs.Cells.{spread}
use Rattle.octet_seats.proofs.layout.lay_out.Given as goal

abbrev pub invariant-loop : goal.invariant-loop
invariant-loop l = l.words.items ≡ spread (replicate l.counter 0)

abbrev pub invariant-loop-object : goal.invariant-loop-object
invariant-loop-object l = l.words.items ≡ spread (replicate l.zeros 0 ++ take l.object l.cells)
