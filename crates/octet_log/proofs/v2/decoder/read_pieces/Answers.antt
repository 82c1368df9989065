use Rattle.std.proofs.Common.{◌≡◌, ◌<◌, length, get_or, arith, rules}
use Rattle.std.proofs.lemmas.Result.{err_from_is_err_and}
use Rattle.octet_log.proofs.version2.Loops.{thread_fails, pieces_end, no_thread, piece_fails, piece_read, pieces_cut}
use Rattle.octet_log.proofs.v2.decoder.read_pieces.Goals as goal

pub returns-in_err-thread-clause-judged : goal.returns-in_err-thread-clause-judged
returns-in_err-thread-clause-judged c =
    let p = err_from_is_err_and c.from_residual.result c.from_residual.ensures.1 in
    rw (p.1, p.2)
    (thread_fails c.args.total c.args.threads (length c.args.bytes.now) c.loop.counter c.loop.before c.loop.logs.items c.loop.rest.now _ c.in_err-thread.field-0.0 c.loop-test.true c.in_err-thread.ensures.judged c.loop.invariant.judged)

pub returns-then-thread-clause-judged : goal.returns-then-thread-clause-judged
returns-then-thread-clause-judged c =
    pieces_end c.args.total c.args.threads (length c.args.bytes.now) c.loop.counter c.loop.before c.loop.logs.items c.loop.rest.now _ c.in_ok-thread.thread c.in_ok-thread.after.now c.loop-test.true c.in_ok-thread.ensures.judged c.if-thread.true c.loop.invariant.judged

pub returns-then-thread-threads-clause-judged : goal.returns-then-thread-threads-clause-judged
returns-then-thread-threads-clause-judged c =
    rw c.into.ensures
    (no_thread c.args.total c.args.threads (length c.args.bytes.now) c.loop.counter c.loop.before c.loop.logs.items c.loop.rest.now _ c.in_ok-thread.thread c.in_ok-thread.after.now c.loop-test.true c.in_ok-thread.ensures.judged c.if-thread.false c.if-thread-threads.true c.loop.invariant.judged)

pub returns-in_err-count-clause-judged : goal.returns-in_err-count-clause-judged
returns-in_err-count-clause-judged c =
    let p = err_from_is_err_and c.from_residual-in_err-count.result c.from_residual-in_err-count.ensures.1 in
    rw (p.1, p.2)
    (piece_fails c.args.total c.args.threads (length c.args.bytes.now) c.loop.counter c.loop.before c.loop.logs.items c.loop.rest.now _ c.in_err-count.field-0.0 c.in_ok-thread.thread c.in_ok-thread.after.now c.index_mut-log.result.now.marks c.loop-test.true c.in_ok-thread.ensures.judged c.if-thread.false c.in_err-count.ensures.judged c.loop.invariant.judged)

pub loop-preserved : goal.loop-preserved
loop-preserved c =
    let within : c.in_ok-thread.thread < length c.loop.logs.items = omega (arith, c.if-thread-threads.false, c.loop.invariant.length, c.requires.logs) in
    let is : c.index_mut-log.result.now ≡ get_or c.loop.logs.items c.in_ok-thread.thread c.index_mut-log.result.now = rw c.from.ensures at c.index_mut-log.ensures.value in
    record {
      judged = rw c.from.ensures
          (piece_read c.args.total c.args.threads (length c.args.bytes.now) c.loop.counter c.loop.before c.loop.logs.items c.loop.rest.now _ c.in_ok-thread.thread c.in_ok-count.count c.in_ok-thread.after.now c.in_ok-count.after.now c.index_mut-log.result.now c.read_piece.new.marks c.loop-test.true c.in_ok-thread.ensures.judged c.if-thread.false within is c.in_ok-count.ensures.judged c.in_ok-count.ensures.count c.loop.invariant.judged);
      shorter = omega (arith, c.in_ok-count.ensures.shorter, c.in_ok-thread.ensures.shorter, c.loop.invariant.shorter);
      length = search rules;
      before = c.in_ok-count.ensures.few;
    }

pub returns-clause-judged : goal.returns-clause-judged
returns-clause-judged c =
    rw c.cut_short.ensures (pieces_cut c.args.total c.args.threads (length c.args.bytes.now) c.loop.counter c.loop.before c.loop.logs.items c.loop.rest.now _ c.loop-test.false c.loop.invariant.judged)
