use Rattle.std.proofs.Common.{◌≡◌, ◌<◌, length, get_or, arith, rules}
use Rattle.std.proofs.lemmas.Result.{err_from_is_err_and}
use Rattle.octet_log.proofs.version2.Loops.{tail_fails, tail_goes, tail_done}
use Rattle.octet_log.proofs.v2.decoder.read_tail.Goals as goal

pub returns-in_err-rest-clause-judged : goal.returns-in_err-rest-clause-judged
returns-in_err-rest-clause-judged c =
    let p = err_from_is_err_and c.from_residual.result c.from_residual.ensures.1 in
    let within : c.loop-thread.thread < length c.loop-thread.logs.items = omega (arith, c.loop-thread-test.true, c.loop-thread.invariant.length, c.requires.logs) in
    let is : c.index_mut-log.result.now ≡ get_or c.loop-thread.logs.items c.loop-thread.thread c.index_mut-log.result.now = rw c.from.ensures at c.index_mut-log.ensures.value in
    rw (p.1, p.2)
    (tail_fails c.args.total c.loop-thread.thread c.loop-thread.before c.loop-thread.logs.items c.loop-thread.rest.now _ c.in_err-rest.field-0.0 c.index_mut-log.result.now within is c.in_err-rest.ensures.judged c.loop-thread.invariant.judged)

pub loop-thread-preserved : goal.loop-thread-preserved
loop-thread-preserved c =
    let within : c.loop-thread.thread < length c.loop-thread.logs.items = omega (arith, c.loop-thread-test.true, c.loop-thread.invariant.length, c.requires.logs) in
    let is : c.index_mut-log.result.now ≡ get_or c.loop-thread.logs.items c.loop-thread.thread c.index_mut-log.result.now = rw c.from.ensures at c.index_mut-log.ensures.value in
    record {
      judged = rw c.from.ensures
          (tail_goes c.args.total c.loop-thread.thread c.loop-thread.before c.loop-thread.logs.items c.loop-thread.rest.now _ c.index_mut-log.result.now c.read_accesses.new.log c.in_ok-rest.rest.now within is c.in_ok-rest.ensures.judged c.loop-thread.invariant.judged);
      shorter = omega (arith, c.in_ok-rest.ensures.shorter, c.loop-thread.invariant.shorter);
      length = search rules;
      before = c.in_ok-rest.ensures.sum;
    }

pub returns-clause-judged : goal.returns-clause-judged
returns-clause-judged c =
    tail_done c.args.total c.loop-thread.thread c.loop-thread.before c.loop-thread.logs.items c.loop-thread.rest.now _ (omega (arith, c.loop-thread-test.false, c.loop-thread.invariant.length, c.requires.logs)) c.loop-thread.invariant.judged
