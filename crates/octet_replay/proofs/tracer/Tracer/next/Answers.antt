use Rattle.std.proofs.Common.{arith}
use Rattle.octet_replay.proofs.Tracing.{all_told, counted, one_more, room, tells, traced_on, unchanged}
use Rattle.octet_replay.proofs.tracer.Tracer.next.Goals as goal

pub returns-in_default : goal.returns-in_default
returns-in_default c = (
  all_told c.self.inside.replayer c.step.new.self c.self.inside.made c.args.self.now c.self.invariant c.self.view_is c.in_default.ensures.0,
  unchanged c.self.inside.replayer c.step.new.self c.self.inside.made c.args.self.now c.self.invariant c.self.view_is c.in_default.ensures.1,
)

pub overflow_add-self : goal.overflow_add-self
overflow_add-self c = omega (arith, room c.self.inside.replayer c.step.new.self c.self.inside.made c.args.self.now c.self.invariant c.self.view_is c.in-Made.thread c.in-Made.event c.in-Made.ensures)

pub invariant_of-self-2 : goal.invariant_of-self-2
invariant_of-self-2 c =
    traced_on c.self.inside.replayer c.step.new.self c.self.inside.made c.args.self.now c.self.invariant c.self.view_is c.in-Made.thread c.in-Made.event c.in-Made.ensures
    (counted c.self.inside.replayer c.step.new.self c.self.inside.made c.args.self.now c.self.invariant c.self.view_is c.in-Made.thread c.in-Made.event c.in-Made.ensures c.self.told)

pub returns : goal.returns
returns c = (
  tells c.self.inside.replayer c.step.new.self c.self.inside.made c.args.self.now c.self.invariant c.self.view_is c.in-Made.thread c.in-Made.event c.in-Made.ensures,
  one_more c.self.inside.replayer c.step.new.self c.self.inside.made c.args.self.now c.self.invariant c.self.view_is c.in-Made.thread c.in-Made.event c.in-Made.ensures,
)
