use Rattle.std.proofs.Common.{inl, inr, refl, ◌+◌, arith}
use Rattle.octet_replay.proofs.Placing.{after_draw, placed_or_due}
use Rattle.octet_replay.proofs.waits.Lists.count_draw.Goals as goal

pub returns-clause-placed : goal.returns-clause-placed
returns-clause-placed c but placed thread differ =
    let l = c.args.self.now in
    elim (placed_or_due l (record l { draws = l.draws + 1; at_draws = c.take_due-due.new.self }) c.take_due-due.result refl refl
    (after_draw l c.take_due-due.new.self c.take_due-due.result (l.draws + 1) (omega arith) c.take_due-due.ensures) thread (placed thread differ)) [
      | inl due ↦ c.place_all.ensures.placed thread due.0 due.1
      | inr stays ↦ c.place_all.ensures.others thread stays
    ]
