use Rattle.std.proofs.Common.{refl, arith}
use Rattle.octet_state.specs.declared.act.Act.TheVariants.{Fence, Raise, Share, Take}
use Rattle.octet_rule.specs.Seats.{view}
use Rattle.octet_heap.specs.declared.way.Way.TheVariants.{Passes}
use Rattle.octet_heap.specs.Ways.{with_value}
use Rattle.octet_heap.proofs.polls.Going.{comes_to_after, comes_sooner, finished}
use Rattle.octet_heap.proofs.stretches.Loads.{loads_as}
use Rattle.octet_heap.proofs.stretches.MadeAtOnce.{loaded_goes, loaded_held}
use Rattle.octet_heap.proofs.polls.Fastness.{load_waits, more_waits}
use Rattle.octet_heap.proofs.heap.Heap.load_on.Goals as goal

pub returns-in-Fence-clause-comes : goal.returns-in-Fence-clause-comes
returns-in-Fence-clause-comes c = λ v is. let u = view c.args.recorder.now.seat in let x = view c.fence.new.recorder.seat in
    finished c.args.access v x _ 19 Passes _
    (comes_to_after c.args.access v u x 2 2 19 Passes
    (λ value. loaded_goes (with_value c.args.access value) v u c.args.word c.args.state c.args.act is.0 is.1 (loads_as c.args.access value v.thread.phase is.2) Fence c.in-Fence.is refl)
    c.fence.ensures.comes (omega arith))
    c.finish.ensures.finishes

pub returns-in-Fence-clause-passes : goal.returns-in-Fence-clause-passes
returns-in-Fence-clause-passes c = λ v is. let u = view c.args.recorder.now.seat in let x = view c.fence.new.recorder.seat in
    more_waits c.args.access v u c.args.word c.args.state c.args.act is.0 _ _ 2
    (finished c.args.access u x _ 2 Passes _ c.fence.ensures.comes c.finish.ensures.finishes)

pub returns-in-Raise-clause-comes : goal.returns-in-Raise-clause-comes
returns-in-Raise-clause-comes c = λ v is. let u = view c.args.recorder.now.seat in let x = view c.raise-way.new.recorder.seat in
    finished c.args.access v x _ 19 c.raise-way.result _
    (comes_to_after c.args.access v u x 2 3 19 c.raise-way.result
    (λ value. loaded_goes (with_value c.args.access value) v u c.args.word c.args.state c.args.act is.0 is.1 (loads_as c.args.access value v.thread.phase is.2) Raise c.in-Raise.is refl)
    c.raise-way.ensures.comes (omega arith))
    c.finish-in-Raise.ensures.finishes

pub returns-in-Raise-clause-passes : goal.returns-in-Raise-clause-passes
returns-in-Raise-clause-passes c = λ v is. let u = view c.args.recorder.now.seat in let x = view c.raise-way.new.recorder.seat in
    more_waits c.args.access v u c.args.word c.args.state c.args.act is.0 _ _ 3
    (finished c.args.access u x _ 3 c.raise-way.result _ c.raise-way.ensures.comes c.finish-in-Raise.ensures.finishes)

pub returns-in-Share-clause-comes : goal.returns-in-Share-clause-comes
returns-in-Share-clause-comes c = λ v is. let u = view c.args.recorder.now.seat in let x = view c.share-way.new.recorder.seat in
    finished c.args.access v x _ 19 c.share-way.result _
    (comes_to_after c.args.access v u x 2 4 19 c.share-way.result
    (λ value. loaded_goes (with_value c.args.access value) v u c.args.word c.args.state c.args.act is.0 is.1 (loads_as c.args.access value v.thread.phase is.2) (Share c.in-Share.from c.in-Share.upto) c.in-Share.is refl)
    c.share-way.ensures.comes (omega arith))
    c.finish-in-Share.ensures.finishes

pub returns-in-Share-clause-passes : goal.returns-in-Share-clause-passes
returns-in-Share-clause-passes c = λ v is. let u = view c.args.recorder.now.seat in let x = view c.share-way.new.recorder.seat in
    more_waits c.args.access v u c.args.word c.args.state c.args.act is.0 _ _ 4
    (finished c.args.access u x _ 4 c.share-way.result _ c.share-way.ensures.comes c.finish-in-Share.ensures.finishes)

pub returns-in-Take-clause-comes : goal.returns-in-Take-clause-comes
returns-in-Take-clause-comes c = λ v is. let u = view c.args.recorder.now.seat in let x = view c.claim-way.new.recorder.seat in
    finished c.args.access v x _ 19 c.claim-way.result _
    (comes_to_after c.args.access v u x 2 18 19 c.claim-way.result
    (λ value. loaded_goes (with_value c.args.access value) v u c.args.word c.args.state c.args.act is.0 is.1 (loads_as c.args.access value v.thread.phase is.2) (Take c.in-Take.whom) c.in-Take.is refl)
    c.claim-way.ensures.comes (omega arith))
    c.finish-in-Take.ensures.finishes

pub returns-in-Take-clause-passes : goal.returns-in-Take-clause-passes
returns-in-Take-clause-passes c = λ v is. let u = view c.args.recorder.now.seat in let x = view c.claim-way.new.recorder.seat in
    more_waits c.args.access v u c.args.word c.args.state c.args.act is.0 _ _ 18
    (finished c.args.access u x _ 18 c.claim-way.result _ c.claim-way.ensures.comes c.finish-in-Take.ensures.finishes)

pub returns-in-Held-clause-comes : goal.returns-in-Held-clause-comes
returns-in-Held-clause-comes c = λ v is. let u = view c.args.recorder.now.seat in
    let held = loaded_held c.args.access v u c.args.word c.args.state c.args.act is.0 is.1 is.2 c.in-Held.by c.in-Held.is in
    comes_sooner c.args.access v u 3 19 _ held.0 (omega arith)

pub returns-in-Held-clause-passes : goal.returns-in-Held-clause-passes
returns-in-Held-clause-passes c = λ v is. load_waits c.args.access v (view c.args.recorder.now.seat) c.args.word c.args.state c.args.act is.0
