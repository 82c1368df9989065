use Rattle.std.proofs.Common.{arith}
use Rattle.octet_rule.specs.Seats.{view}
use Rattle.octet_heap.specs.Calls.{access_to}
use Rattle.octet_state.specs.declared.act.Mode.TheVariants.{Update}
use Rattle.octet_heap.specs.Updates.{amount_made}
use Rattle.octet_heap.proofs.polls.Going.{finished_by, comes_sooner}
use Rattle.octet_heap.proofs.heap.Heap.go_on_to_change.Goals as goal

pub returns-in-Some-clause-comes : goal.returns-in-Some-clause-comes
returns-in-Some-clause-comes c = let v = view c.args.recorder.now.seat in let x = view c.look_on-way.new.recorder.seat in
    comes_sooner (access_to c.args.object Update (amount_made c.args.change c.finish_change.result)) v _ 18 19 _
    (finished_by c.args.change c.args.object v x _ 18 c.look_on-way.result c.finish_change.result c.look_on-way.ensures.comes c.finish_change.ensures.finishes) (omega arith)
