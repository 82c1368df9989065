use Rattle.std.proofs.Common.{◌-◌, arith}
use Rattle.std.proofs.lemmas.Result.{err_from_is_err_and}
use Rattle.octet_log.specs.v1.Decoding.{mark_at, marks_at}
use Rattle.octet_log.proofs.Loops.{goes_on, ends, is_done}
use Rattle.octet_log.proofs.v1.decoder.read_marks.Goals as goal

pub returns-in_err-gapped-clause-judged : goal.returns-in_err-gapped-clause-judged
returns-in_err-gapped-clause-judged c =
    let p = err_from_is_err_and c.from_residual-in_err-gapped.result c.from_residual-in_err-gapped.ensures.1 in
    rw (p.1, p.2)
    (ends (mark_at c.args.total c.args.threads c.args.thread) (λ left mark. left - mark.gap) c.in_err-gapped.field-0.0 c.loop.marks.items c.args.count c.loop.counter c.loop.left c.loop.rest.now (marks_at c.args.total c.args.threads c.args.thread c.args.accesses c.args.count c.args.bytes.now) c.loop-test.true c.in_err-gapped.ensures.judged c.loop.invariant.judged)

pub loop-preserved : goal.loop-preserved
loop-preserved c = record {
  judged = rw c.in_ok-push.ensures.items
      (goes_on (mark_at c.args.total c.args.threads c.args.thread) (λ left mark. left - mark.gap) c.loop.marks.items c.args.count c.loop.counter c.loop.left c.loop.rest.now c.in_ok-gapped.gapped c.in_ok-gapped.after.now (marks_at c.args.total c.args.threads c.args.thread c.args.accesses c.args.count c.args.bytes.now) c.loop-test.true c.in_ok-gapped.ensures.judged c.loop.invariant.judged);
  shorter = omega (arith, c.in_ok-gapped.ensures.shorter, c.loop.invariant.shorter);
}

pub returns-clause-judged : goal.returns-clause-judged
returns-clause-judged c =
    is_done (mark_at c.args.total c.args.threads c.args.thread) (λ left mark. left - mark.gap) c.loop.marks.items c.args.count c.loop.counter c.loop.left c.loop.rest.now _ c.loop-test.false c.loop.invariant.judged
