use Rattle.std.proofs.Common.{rules, ◌≡◌, ◌∙◌, ◌++◌, ◌∷◌, [], get_or, refl}
use Rattle.octet_seats.specs.Cells.{spread}
use Rattle.octet_seats.proofs.lemmas.Spread.{zeros_more, cell_more}
use Rattle.octet_seats.proofs.layout.lay_out.Goals as goal

pub loop-preserved : goal.loop-preserved
loop-preserved c = let e : c.push_apart.new.words.items ≡ c.loop.words.items ++ spread (0 ∷ []) = search rules in
    e ∙ zeros_more c.loop.words.items c.loop.counter c.loop.invariant

pub loop-object-preserved : goal.loop-object-preserved
loop-object-preserved c = let e : c.push_apart-in-loop-object.new.words.items ≡ c.loop-object.words.items ++ spread (get_or c.args.cells.now c.loop-object.object 0 ∷ []) = search rules in
    e ∙ cell_more c.loop-object.words.items c.args.cells.now c.args.zeros c.loop-object.object (get_or c.args.cells.now c.loop-object.object 0) (search rules) refl c.loop-object.invariant
