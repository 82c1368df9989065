use Rattle.std.proofs.Common.{Some, sym, ap, ◌∙◌, arith}
use Rattle.std.proofs.lemmas.Option.{slice_get-get_or}
use Rattle.octet_replay.specs.declared.need.Need.{Need}
use Rattle.octet_replay.proofs.waits.Lists.place.Goals as goal

pub settle-requires-clause-its : goal.settle-requires-clause-its
settle-requires-clause-its c =
    slice_get-get_or c.args.self.now.needs.items c.args.thread c.index-need.result.now (omega arith) ∙ ap (λ (n : Need). Some n) (sym c.index-need.ensures)
