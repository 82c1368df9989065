use Rattle.std.proofs.Common.{◌+◌, ◌-◌, ◌++◌, ◌∷◌, [], arith}
use Rattle.std.proofs.lemmas.Result.{err_from_is_err_and}
use Rattle.octet_log.specs.v1.Decoding.{threads_at}
use Rattle.octet_log.proofs.version1.Loops.{counted_on, read_next, next_thread}
use Rattle.octet_log.proofs.Loops.{goes_on, ends, is_done}
use Rattle.octet_log.proofs.v1.decoder.read_threads.Goals as goal

pub returns-in_err-log-clause-judged : goal.returns-in_err-log-clause-judged
returns-in_err-log-clause-judged c =
    let p = err_from_is_err_and c.from_residual.result c.from_residual.ensures.1 in
    rw (p.1, p.2)
    (ends (read_next c.args.total c.args.threads) next_thread c.in_err-log.field-0.0 c.loop-thread.logs.items c.args.threads c.loop-thread.thread (c.loop-thread.thread, c.loop-thread.before) c.loop-thread.rest.now (threads_at c.args.total c.args.threads c.args.bytes.now) c.loop-thread-test.true c.in_err-log.ensures.judged c.loop-thread.invariant.judged)

pub loop-thread-preserved : goal.loop-thread-preserved
loop-thread-preserved c = record {
  judged = rw (c.in_ok-push.ensures.items, c.from-before.ensures)
      (counted_on c.args.total c.args.threads (c.args.threads - (c.loop-thread.thread + 1)) c.loop-thread.thread (c.loop-thread.before + c.in_ok-log.log.accesses) c.in_ok-log.after.now (c.loop-thread.logs.items ++ c.in_ok-log.log ∷ []) _
      (goes_on (read_next c.args.total c.args.threads) next_thread c.loop-thread.logs.items c.args.threads c.loop-thread.thread (c.loop-thread.thread, c.loop-thread.before) c.loop-thread.rest.now c.in_ok-log.log c.in_ok-log.after.now (threads_at c.args.total c.args.threads c.args.bytes.now) c.loop-thread-test.true c.in_ok-log.ensures.judged c.loop-thread.invariant.judged));
  shorter = omega (arith, c.in_ok-log.ensures.shorter, c.loop-thread.invariant.shorter);
  sum = omega (arith, c.in_ok-log.ensures.sum, c.from-before.ensures);
}

pub returns-clause-judged : goal.returns-clause-judged
returns-clause-judged c =
    is_done (read_next c.args.total c.args.threads) next_thread c.loop-thread.logs.items c.args.threads c.loop-thread.thread (c.loop-thread.thread, c.loop-thread.before) c.loop-thread.rest.now _ c.loop-thread-test.false c.loop-thread.invariant.judged
