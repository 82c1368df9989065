use Rattle.std.proofs.Common.{◌∙◌}
use Rattle.octet_gen.proofs.Sequence.{none_drawn, no_threads, thread_pushed, thread_drawn}
use Rattle.octet_gen.proofs.generator.make_threads.Goals as goal

pub loop-thread-init : goal.loop-thread-init
loop-thread-init c = (c.new-threads.ensures ∙ no_threads c.args.number, none_drawn c.args.number)

pub loop-thread-preserved : goal.loop-thread-preserved
loop-thread-preserved c = (
  thread_pushed c.args.number c.loop-thread.thread c.loop-thread.draws.number c.in_ok-make_thread.field-0 c.loop-thread.threads c.push.new.self
      c.loop-thread.invariant.0 c.loop-thread.invariant.1 c.in_ok-make_thread.ensures.commands c.in_ok-push.ensures.ok,
  thread_drawn c.args.number c.loop-thread.thread c.loop-thread.draws.number c.make_thread.new.draws.number c.loop-thread.invariant.1 c.in_ok-make_thread.ensures.draws,
)
