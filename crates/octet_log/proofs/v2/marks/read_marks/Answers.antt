use Rattle.std.proofs.Common.{arith}
use Rattle.std.proofs.lemmas.List.{length-append}
use Rattle.std.proofs.lemmas.Result.{err_from_is_err_and}
use Rattle.octet_log.specs.Judging.{with_front}
use Rattle.octet_log.specs.v2.Decoding.{short_mark_at, short_marks_at}
use Rattle.octet_log.proofs.Loops.{goes_on, ends, is_done}
use Rattle.octet_log.proofs.v2.marks.read_marks.Goals as goal

pub returns-in_err-gapped-clause-judged : goal.returns-in_err-gapped-clause-judged
returns-in_err-gapped-clause-judged c =
    let p = err_from_is_err_and c.from_residual-in_err-gapped.result c.from_residual-in_err-gapped.ensures.1 in
    rw (p.1, p.2)
    (ends (λ (u : Unit {0}). short_mark_at c.args.total c.args.threads c.args.thread) (λ state _. state) c.in_err-gapped.field-0.0 c.loop.all.items c.args.count c.loop.counter tt c.loop.rest.now (with_front c.args.marks.now (short_marks_at c.args.total c.args.threads c.args.thread c.args.count c.args.bytes.now)) c.loop-test.true c.in_err-gapped.ensures.judged c.loop.invariant.judged)

pub loop-preserved : goal.loop-preserved
loop-preserved c = record {
  judged = rw c.in_ok-push.ensures.items
      (goes_on (λ (u : Unit {0}). short_mark_at c.args.total c.args.threads c.args.thread) (λ state _. state) c.loop.all.items c.args.count c.loop.counter tt c.loop.rest.now c.in_ok-gapped.gapped c.in_ok-gapped.after.now (with_front c.args.marks.now (short_marks_at c.args.total c.args.threads c.args.thread c.args.count c.args.bytes.now)) c.loop-test.true c.in_ok-gapped.ensures.judged c.loop.invariant.judged);
  shorter = omega (arith, c.in_ok-gapped.ensures.shorter, c.loop.invariant.shorter);
  count = rw c.in_ok-push.ensures.items (omega (arith, length-append c.loop.all.items, c.loop.invariant.count));
}

pub returns-clause-judged : goal.returns-clause-judged
returns-clause-judged c =
    rw c.from_vec.ensures
    (is_done (λ (u : Unit {0}). short_mark_at c.args.total c.args.threads c.args.thread) (λ state _. state) c.loop.all.items c.args.count c.loop.counter tt c.loop.rest.now _ c.loop-test.false c.loop.invariant.judged)
