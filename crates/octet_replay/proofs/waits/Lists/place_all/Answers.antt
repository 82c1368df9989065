use Rattle.std.proofs.Common.{◌≡◌, true, false, sym, ◌∙◌}
use Rattle.octet_replay.proofs.waits.Lists.place_all.Goals as goal

pub returns-then-is_empty-clause-placed : goal.returns-then-is_empty-clause-placed
returns-then-is_empty-clause-placed c thread is within =
    absurd (let clash : true ≡ false = sym is ∙ c.is_empty.ensures c.if-is_empty.true thread in cc)
