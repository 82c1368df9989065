use Rattle.std.proofs.Common.{◌≡◌, rules, refl, Option, Some, sym, subst}
use Rattle.octet_recorder.specs.declared.access.Access.{Access}
use Rattle.octet_session.specs.Recording.{AnswersFirst}
use Rattle.octet_session.proofs.Asked.{first_is_reason, first_is_made}
use Rattle.octet_session.proofs.recording.RecorderSession.ask.Goals as goal

pub returns-in-Some-clause-reason : goal.returns-in-Some-clause-reason
returns-in-Some-clause-reason c =
    let v = c.args.thread.now in
    let is : v.begun ≡ Some c.in-Some.field-0 = search rules in
    let answers = subst (λ (begun : Option Access). AnswersFirst begun v v) (sym is) refl in
    first_is_reason c.args.wanted v v c.access_on.new.track c.access_on.result answers c.access_on.ensures.reason

pub returns-in-Some-clause-made : goal.returns-in-Some-clause-made
returns-in-Some-clause-made c =
    let v = c.args.thread.now in
    let is : v.begun ≡ Some c.in-Some.field-0 = search rules in
    let answers = subst (λ (begun : Option Access). AnswersFirst begun v v) (sym is) refl in
    first_is_made c.args.wanted v v c.access_on.new.track c.access_on.result answers c.access_on.ensures.made
