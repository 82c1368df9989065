use Rattle.std.proofs.Common.{rules, refl, ◌-◌}
use Rattle.octet_parallel.proofs.steps.Needing.{none_drawn, not_drawn, is_drawn, past_table, read_table}
use Rattle.octet_parallel.proofs.field.Field.draw.Goals as goal

pub returns-then-place-len : goal.returns-then-place-len
returns-then-place-len c = none_drawn _ _ c.args.self.now.known c.args.number c.requires (past_table _ c.args.number (c.args.number - 1) refl (search rules))

pub returns-then-draw-eq0 : goal.returns-then-draw-eq0
returns-then-draw-eq0 c = not_drawn _ _ c.args.self.now.known c.args.number c.requires c.index-draw.result.now (read_table _ c.args.number (c.args.number - 1) c.index-draw.result.now refl (search rules) (search rules)) (search rules)

pub returns : goal.returns
returns c = is_drawn _ _ c.args.self.now.known c.args.number c.requires c.index-draw.result.now (read_table _ c.args.number (c.args.number - 1) c.index-draw.result.now refl (search rules) (search rules)) (search rules)
