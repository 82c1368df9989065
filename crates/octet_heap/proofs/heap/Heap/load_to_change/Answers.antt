use Rattle.std.proofs.Common.{◌∙◌, ℕ, subst}
use Rattle.octet_state.specs.declared.act.Mode.TheVariants.{Update}
use Rattle.octet_rule.specs.Seats.{view}
use Rattle.octet_rule.specs.Changes.{amount_by}
use Rattle.octet_heap.specs.declared.poll.Poll.TheVariants.{Ready}
use Rattle.octet_heap.specs.OwnersPath.{steps_since}
use Rattle.octet_heap.specs.Polls.{Comes}
use Rattle.octet_heap.specs.Calls.{access_to}
use Rattle.octet_heap.specs.Standing.{update_of}
use Rattle.octet_heap.proofs.polls.Updated.{made_ends, passes_as}
use Rattle.octet_heap.proofs.stretches.Loads.{loads_as}
use Rattle.octet_heap.proofs.stretches.MadeAtOnce.{made_comes, made_leaves}
use Rattle.octet_heap.proofs.polls.Fastness.{made_passes}
use Rattle.octet_heap.proofs.heap.Heap.load_to_change.Goals as goal

pub returns-in-Made-clause-comes : goal.returns-in-Made-clause-comes
returns-in-Made-clause-comes c = let v = view c.args.recorder.now.seat in let w = view c.enter_to_change.new.self.seat in let access = access_to c.args.object Update (amount_by c.args.change c.in-Made.told) in
    subst (λ (value : ℕ). Comes access v (Ready value) 19 w) c.in-Made.ensures.led
    (made_comes access v c.in-Made.told w c.in-Made.ensures.steps c.requires.due (loads_as (update_of c.args.object) access.value v.thread.phase c.requires.loads))

pub returns-in-Made-clause-ends : goal.returns-in-Made-clause-ends
returns-in-Made-clause-ends c = made_ends c.args.object c.args.change (view c.args.recorder.now.seat) (view c.enter_to_change.new.self.seat) c.in-Made.told c.in-Made.ensures.steps c.in-Made.ensures.led

pub returns-in-Made-clause-leaves : goal.returns-in-Made-clause-leaves
returns-in-Made-clause-leaves c = made_leaves (access_to c.args.object Update (amount_by c.args.change c.in-Made.told)) (view c.args.recorder.now.seat) c.in-Made.told _ c.in-Made.ensures.steps

pub returns-in-Made-clause-passes : goal.returns-in-Made-clause-passes
returns-in-Made-clause-passes c = let v = view c.args.recorder.now.seat in let w = view c.enter_to_change.new.self.seat in let amount = amount_by c.args.change c.in-Made.told in
    made_passes (access_to c.args.object Update amount) v c.in-Made.told w c.in-Made.ensures.steps ∙ passes_as c.args.object amount v (steps_since v w)

pub returns-in-Loaded-clause-comes : goal.returns-in-Loaded-clause-comes
returns-in-Loaded-clause-comes c = c.load_on_to_change.ensures.comes (view c.args.recorder.now.seat) (c.in-Loaded.ensures.steps, c.requires.due, c.requires.loads)

pub returns-in-Loaded-clause-passes : goal.returns-in-Loaded-clause-passes
returns-in-Loaded-clause-passes c = c.load_on_to_change.ensures.passes (view c.args.recorder.now.seat) (c.in-Loaded.ensures.steps, c.requires.due, c.requires.loads)

pub load_on_to_change-requires-clause-loaded : goal.load_on_to_change-requires-clause-loaded
load_on_to_change-requires-clause-loaded c = (view c.args.recorder.now.seat, (c.in-Loaded.ensures.steps, c.requires.due, c.requires.loads))
