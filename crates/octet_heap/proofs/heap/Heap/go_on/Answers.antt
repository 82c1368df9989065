use Rattle.std.proofs.Common.{arith}
use Rattle.octet_rule.specs.Seats.{view}
use Rattle.octet_heap.proofs.polls.Going.{finished, comes_sooner}
use Rattle.octet_heap.proofs.heap.Heap.go_on.Goals as goal

pub returns-in-Some-clause-comes : goal.returns-in-Some-clause-comes
returns-in-Some-clause-comes c = let v = view c.args.recorder.now.seat in let x = view c.look_on-way.new.recorder.seat in
    comes_sooner c.args.access v _ 18 19 _ (finished c.args.access v x _ 18 c.look_on-way.result _ c.look_on-way.ensures.comes c.finish.ensures.finishes) (omega arith)
