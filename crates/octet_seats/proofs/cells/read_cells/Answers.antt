use Rattle.std.proofs.Common.{rules, ◌≡◌, ◌∙◌, ◌++◌, ◌∷◌, []}
use Rattle.std.specs.Mem.Slots.{slots_items}
use Rattle.octet_seats.proofs.lemmas.Cells.{read_more}
use Rattle.octet_seats.proofs.cells.read_cells.Goals as goal

pub loop-cell-preserved : goal.loop-cell-preserved
loop-cell-preserved g c = let e : c.push.new.self.items ≡ c.loop-cell.values.items ++ c.word.result ∷ [] = search rules in
    e ∙ read_more (slots_items c.args.closed.now.words) c.loop-cell.values.items c.args.first c.loop-cell.cell c.word.result c.word.ensures c.loop-cell.invariant
