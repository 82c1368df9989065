use Rattle.std.proofs.Common.{◌∙◌, refl, arith}
use Rattle.octet_state.specs.declared.act.Act.TheVariants.{Raise, Take}
use Rattle.octet_state.specs.declared.act.Mode.TheVariants.{Update}
use Rattle.octet_rule.specs.Seats.{view}
use Rattle.octet_heap.specs.OwnersPath.{steps_since}
use Rattle.octet_heap.specs.Calls.{access_to}
use Rattle.octet_heap.specs.Standing.{update_of}
use Rattle.octet_heap.specs.Updates.{amount_made}
use Rattle.octet_heap.proofs.polls.Going.{comes_to_after, comes_sooner, finished_by}
use Rattle.octet_heap.proofs.polls.Updated.{passes_as}
use Rattle.octet_heap.proofs.stretches.Loads.{loads_as}
use Rattle.octet_heap.proofs.stretches.MadeAtOnce.{loaded_goes, loaded_held}
use Rattle.octet_heap.proofs.polls.Fastness.{load_waits, more_waits}
use Rattle.octet_heap.proofs.heap.Heap.pursue_change.Goals as goal

pub returns-in-Raise-clause-comes : goal.returns-in-Raise-clause-comes
returns-in-Raise-clause-comes c = λ v is. let u = view c.args.recorder.now.seat in let x = view c.raise-way.new.recorder.seat in
    finished_by c.args.change c.args.object v x _ 19 c.raise-way.result _
    (comes_to_after (update_of c.args.object) v u x 2 3 19 c.raise-way.result
    (λ value. loaded_goes (access_to c.args.object Update value) v u c.args.word c.args.state c.args.act is.0 is.1 (loads_as (update_of c.args.object) value v.thread.phase is.2) Raise c.in-Raise.is refl)
    c.raise-way.ensures.comes (omega arith))
    c.finish_change.ensures.finishes

pub returns-in-Raise-clause-passes : goal.returns-in-Raise-clause-passes
returns-in-Raise-clause-passes c = λ v is. let u = view c.args.recorder.now.seat in let x = view c.raise-way.new.recorder.seat in
    let w = view c.finish_change.new.recorder.seat in let amount = amount_made c.args.change c.finish_change.result in
    more_waits (access_to c.args.object Update amount) v u c.args.word c.args.state c.args.act is.0 w _ 3
    (finished_by c.args.change c.args.object u x w 3 c.raise-way.result c.finish_change.result c.raise-way.ensures.comes c.finish_change.ensures.finishes)
    ∙ passes_as c.args.object amount v (steps_since v w)

pub returns-in-Take-clause-comes : goal.returns-in-Take-clause-comes
returns-in-Take-clause-comes c = λ v is. let u = view c.args.recorder.now.seat in let x = view c.claim-way.new.recorder.seat in
    finished_by c.args.change c.args.object v x _ 19 c.claim-way.result _
    (comes_to_after (update_of c.args.object) v u x 2 18 19 c.claim-way.result
    (λ value. loaded_goes (access_to c.args.object Update value) v u c.args.word c.args.state c.args.act is.0 is.1 (loads_as (update_of c.args.object) value v.thread.phase is.2) (Take c.in-Take.whom) c.in-Take.is refl)
    c.claim-way.ensures.comes (omega arith))
    c.finish_change-in-Take.ensures.finishes

pub returns-in-Take-clause-passes : goal.returns-in-Take-clause-passes
returns-in-Take-clause-passes c = λ v is. let u = view c.args.recorder.now.seat in let x = view c.claim-way.new.recorder.seat in
    let w = view c.finish_change-in-Take.new.recorder.seat in let amount = amount_made c.args.change c.finish_change-in-Take.result in
    more_waits (access_to c.args.object Update amount) v u c.args.word c.args.state c.args.act is.0 w _ 18
    (finished_by c.args.change c.args.object u x w 18 c.claim-way.result c.finish_change-in-Take.result c.claim-way.ensures.comes c.finish_change-in-Take.ensures.finishes)
    ∙ passes_as c.args.object amount v (steps_since v w)

pub returns-in-Held-clause-comes : goal.returns-in-Held-clause-comes
returns-in-Held-clause-comes c = λ v is. let u = view c.args.recorder.now.seat in
    let held = loaded_held (update_of c.args.object) v u c.args.word c.args.state c.args.act is.0 is.1 is.2 c.in-Held.by c.in-Held.is in
    comes_sooner (update_of c.args.object) v u 3 19 _ held.0 (omega arith)

pub returns-in-Held-clause-passes : goal.returns-in-Held-clause-passes
returns-in-Held-clause-passes c = λ v is. load_waits (update_of c.args.object) v (view c.args.recorder.now.seat) c.args.word c.args.state c.args.act is.0
