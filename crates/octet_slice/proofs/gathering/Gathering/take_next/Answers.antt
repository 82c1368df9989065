use Rattle.std.proofs.Common.{arith, ap, ◌∙◌}
use Rattle.octet_slice.specs.code.Reached.{gathered, with_taken_in}
use Rattle.octet_slice.proofs.Passing.{takes_it}
use Rattle.octet_slice.proofs.gathering.Gathering.take_next.Goals as goal

pub returns-clause-advances : goal.returns-clause-advances
returns-clause-advances c =
    takes_it c.args.logs.now (gathered c.args.self.now) (gathered c.take_in.new.self) (gathered c.move_taken_in.new.self) c.args.thread c.index-logs-thread.result c.in-Some.next c.requires.here c.requires.there
    c.index-logs-thread.is c.index.result.now c.index.ensures c.in-Some.ensures.next c.in-Some.ensures.left (omega arith) c.take_in.ensures
    (c.move_taken_in.ensures ∙ ap (with_taken_in (gathered c.take_in.new.self) c.args.thread) c.past.ensures)
