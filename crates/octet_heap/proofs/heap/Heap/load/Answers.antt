use Rattle.std.proofs.Common.{ℕ, sym, subst}
use Rattle.octet_rule.specs.Seats.{view}
use Rattle.octet_heap.specs.declared.poll.Poll.TheVariants.{Ready}
use Rattle.octet_heap.specs.Polls.{Comes}
use Rattle.octet_heap.proofs.stretches.MadeAtOnce.{made_comes, made_leaves}
use Rattle.octet_heap.proofs.polls.Fastness.{made_passes}
use Rattle.octet_heap.proofs.heap.Heap.load.Goals as goal

pub returns-in-Made-clause-comes : goal.returns-in-Made-clause-comes
returns-in-Made-clause-comes c = let v = view c.args.recorder.now.seat in let w = view c.enter.new.self.seat in
    subst (λ (value : ℕ). Comes c.args.access v (Ready value) 19 w) (sym c.value_by-value.ensures) (made_comes c.args.access v c.in-Made.told w c.in-Made.ensures.steps c.requires.due c.requires.loads)

pub returns-in-Made-clause-leaves : goal.returns-in-Made-clause-leaves
returns-in-Made-clause-leaves c = made_leaves c.args.access (view c.args.recorder.now.seat) c.in-Made.told _ c.in-Made.ensures.steps

pub returns-in-Made-clause-passes : goal.returns-in-Made-clause-passes
returns-in-Made-clause-passes c = made_passes c.args.access (view c.args.recorder.now.seat) c.in-Made.told _ c.in-Made.ensures.steps

pub returns-in-Loaded-clause-comes : goal.returns-in-Loaded-clause-comes
returns-in-Loaded-clause-comes c = c.load_on.ensures.comes (view c.args.recorder.now.seat) (c.in-Loaded.ensures.steps, c.requires.due, c.requires.loads)

pub returns-in-Loaded-clause-passes : goal.returns-in-Loaded-clause-passes
returns-in-Loaded-clause-passes c = c.load_on.ensures.passes (view c.args.recorder.now.seat) (c.in-Loaded.ensures.steps, c.requires.due, c.requires.loads)

pub load_on-requires-clause-loaded : goal.load_on-requires-clause-loaded
load_on-requires-clause-loaded c = (view c.args.recorder.now.seat, (c.in-Loaded.ensures.steps, c.requires.due, c.requires.loads))
