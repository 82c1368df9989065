use Rattle.std.proofs.Common.{◌∙◌, Result, None, IfErr, subst}
use Rattle.octet_session.specs.declared.not_made.NotMade.{NotMade}
use Rattle.octet_session.proofs.Gained.{gains_more}
use Rattle.octet_session.proofs.waiting.end.Goals as goal

pub loop-preserved : goal.loop-preserved
loop-preserved g c =
    let i = c.loop.invariant in let v = g.S.Session.standing c.args.session.now c.args.thread.now in
    let u = g.S.Session.standing c.args.session.now c.loop.thread in let w = g.S.Session.standing c.args.session.now c.finish.new.thread in record {
      own = c.finish.ensures.own;
      runs = c.in-Err-Waits.ensures.again.0;
      idle = c.in-Err-Waits.ensures.again.1;
      number = c.finish.ensures.number ∙ i.number;
      journal = gains_more v.journal u.journal w.journal i.journal c.finish.ensures.marks;
    }

pub returns-in-Ok-clause-marks : goal.returns-in-Ok-clause-marks
returns-in-Ok-clause-marks g c =
    let v = g.S.Session.standing c.args.session.now c.args.thread.now in
    let u = g.S.Session.standing c.args.session.now c.loop.thread in let w = g.S.Session.standing c.args.session.now c.finish.new.thread in
    gains_more v.journal u.journal w.journal c.loop.invariant.journal c.finish.ensures.marks

pub returns-in-Err-clause-marks : goal.returns-in-Err-clause-marks
returns-in-Err-clause-marks g c =
    let v = g.S.Session.standing c.args.session.now c.args.thread.now in
    let u = g.S.Session.standing c.args.session.now c.loop.thread in let w = g.S.Session.standing c.args.session.now c.finish.new.thread in
    gains_more v.journal u.journal w.journal c.loop.invariant.journal c.finish.ensures.marks

pub returns-in-Err-clause-reason : goal.returns-in-Err-clause-reason
returns-in-Err-clause-reason g c =
    let reason = g.S.Session.IsReason c.args.session.now None c.loop.thread c.finish.new.thread in
    (c.loop.thread, subst (λ (r : Result Unit (NotMade _)). IfErr r reason) c.in-Err.is c.finish.ensures.reason)
