use Rattle.std.proofs.Common.{Option, sym, subst}
use Rattle.octet_recorder.specs.declared.access.Access.{Access}
use Rattle.octet_session.specs.Recording.{AnswersFirst}
use Rattle.octet_session.proofs.Asked.{first_is_reason, first_is_made}
use Rattle.octet_session.proofs.recording.begin.Goals as goal

pub returns-clause-reason : goal.returns-clause-reason
returns-clause-reason c =
    let v = c.args.track.now in let w = c.safe_point.new.track in
    let answers = subst (λ (begun : Option Access). AnswersFirst begun v w) (sym c.requires.idle) (c.safe_point.ensures.same, (c.safe_point.result, c.safe_point.ensures.step)) in
    first_is_reason c.args.wanted v w c.access_on.new.track c.access_on.result answers c.access_on.ensures.reason

pub returns-clause-made : goal.returns-clause-made
returns-clause-made c =
    let v = c.args.track.now in let w = c.safe_point.new.track in
    let answers = subst (λ (begun : Option Access). AnswersFirst begun v w) (sym c.requires.idle) (c.safe_point.ensures.same, (c.safe_point.result, c.safe_point.ensures.step)) in
    first_is_made c.args.wanted v w c.access_on.new.track c.access_on.result answers c.access_on.ensures.made
