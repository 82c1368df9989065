use Rattle.std.proofs.Common.{get_or, refl}
use Rattle.octet_slice.specs.code.Reached.{no_reach}
use Rattle.octet_slice.proofs.Summing.{cut_more}
use Rattle.octet_slice.proofs.cutting.cut_threads.Goals as goal

pub loop-thread-preserved : goal.loop-thread-preserved
loop-thread-preserved c =
    cut_more c.args.logs.now c.args.threads.now c.loop-thread.thread c.loop-thread.cut c.push.new.self c.index-logs-thread.result c.in_ok-cut_thread.field-0
    (get_or c.args.threads.now c.loop-thread.thread no_reach) no_reach c.requires.many c.loop-thread-test.true c.index-logs-thread.is refl c.loop-thread.invariant c.in_ok-cut_thread.ensures c.in_ok-push.ensures.ok
